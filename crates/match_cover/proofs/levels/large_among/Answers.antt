use Rattle.std.proofs.Common.{arith, ap, sym, ◌∙◌, ◌-◌, map}
use Rattle.core_terms.specs.View.{datatype_view}
use Rattle.match_cover.specs.View.{maybe_cons}
use Rattle.match_cover.proofs.LevelsOn.{large_on}
use Rattle.match_cover.proofs.levels.large_among.Goals as goal

pub loop-left-preserved : goal.loop-left-preserved
loop-left-preserved c =
    large_on (map datatype_view c.args.datatypes.now.items) c.loop-left.left (c.loop-left.left - 1) _ _ _ (omega arith)
    (sym (ap maybe_cons c.in-Some.is) ∙ c.in_ok-next_level.ensures) c.loop-left.invariant
