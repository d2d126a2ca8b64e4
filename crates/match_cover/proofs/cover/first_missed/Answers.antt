use Rattle.std.proofs.Common.{map, refl}
use Rattle.con_terms.specs.View.{con_tree}
use Rattle.core_terms.specs.View.{datatype_view}
use Rattle.match_cover.specs.View.{rows_view}
use Rattle.match_cover.proofs.Asking.{missed_is}
use Rattle.match_cover.proofs.Reasons.{first_is_computed}
use Rattle.match_cover.proofs.cover.first_missed.Goals as goal

pub returns-clause-missed : goal.returns-clause-missed
returns-clause-missed c =
    λ ps a. missed_is (map datatype_view c.args.datatypes.now.items) 3000 c.args.asked.now.depth (rows_view c.args.asked.now.rows) ps (con_tree c.args.t.now) _ _ _
    a c.in_ok-cols.ensures c.in_ok-missed.ensures c.in_ok-first.ensures

pub returns-clause-computed : goal.returns-clause-computed
returns-clause-computed c =
    λ ps a. first_is_computed (map datatype_view c.args.datatypes.now.items) 3000 c.args.asked.now.depth (rows_view c.args.asked.now.rows) ps (con_tree c.args.t.now) _ _ _
    refl a c.in_ok-cols.ensures c.in_ok-missed.ensures c.in_ok-first.ensures
