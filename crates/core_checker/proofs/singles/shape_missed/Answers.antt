use Rattle.std.proofs.Common.{rules, ◌∷◌, ap}
use Rattle.con_terms.specs.View.{con_tree}
use Rattle.core_terms.specs.Trees.{Pt}
use Rattle.core_terms.specs.Lists.{branch_tree}
use Rattle.core_terms.specs.View.{branches_tree, pat_tree}
use Rattle.core_typing.specs.Typed.{branch_patterns}
use Rattle.judgements.specs.View.{sc_view}
use Rattle.type_faults.specs.View.{maybe_fault}
use Rattle.core_checker.proofs.Steps.{bound_missed}
use Rattle.core_checker.proofs.singles.shape_missed.Goals as goal

pub returns : goal.returns
returns c =
    bound_missed c.uncovered.result maybe_fault (sc_view c.args.g.now c.args.s.now) c.args.p c.args.is_bound
    (pat_tree c.branch_pattern.result.now ∷ branch_patterns (branches_tree c.args.bs.now))
    ((branch_tree c.args.b.now).1 ∷ branch_patterns (branches_tree c.args.bs.now))
    (con_tree c.args.t.now) (search (rules, c.if-not-is_bound.false))
    (ap (λ (q : Pt). q ∷ branch_patterns (branches_tree c.args.bs.now)) c.branch_pattern.ensures)
    (c.uncovered.ensures.cause (pat_tree c.branch_pattern.result.now ∷ branch_patterns (branches_tree c.args.bs.now)) c.in_ok-asked.ensures)
