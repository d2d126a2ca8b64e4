use Rattle.std.proofs.Common.{[], ◌∷◌}
use Rattle.con_terms.specs.View.{con_tree}
use Rattle.core_terms.specs.View.{pat_tree}
use Rattle.judgements.specs.View.{judged_tree, sc_view}
use Rattle.type_faults.specs.View.{maybe_fault}
use Rattle.core_checker.proofs.Steps.{function_of}
use Rattle.core_checker.proofs.singles.of_function.Goals as goal

pub returns : goal.returns
returns c =
    function_of c.of_body.result judged_tree (sc_view c.args.g.now c.args.s.now) c.args.p (pat_tree c.args.q.now) (con_tree c.args.t.now) (judged_tree c.args.body) (maybe_fault c.in_ok-own.own)
    (c.in_ok-own.ensures.cause (pat_tree c.args.q.now ∷ []) (c.in_ok-add.ensures [] c.new-asked.ensures)) c.of_body.ensures
