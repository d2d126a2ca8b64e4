use Rattle.std.proofs.Common.{◌≡◌, ◌&&◌, drop}
use Rattle.core_terms.specs.Lists.{branch_tree}
use Rattle.core_terms.specs.Strip.{strip, strip_branches, strip_pattern}
use Rattle.core_terms.specs.View.{branches_tree}
use Rattle.core_terms.specs.declared.exp.Form.TheViews.{out-Branches}
use Rattle.plain_tree.specs.ExpView as view
use Rattle.plain_tree.specs.declared.exp.Form.TheViews as plain
use Rattle.source_names.specs.View.{scope_view}
use Rattle.source_terms.specs.Leaves.{form_of}
use Rattle.source_terms.specs.Tasks.{all_read}
use Rattle.source_terms.specs.Terms.{reads_branch, reads_branches}
use Rattle.source_terms.proofs.Pairs.{both}
use Rattle.source_terms.proofs.functions.are_branches.Given as goal

abbrev pub invariant-loop-i : goal.invariant-loop-i
invariant-loop-i l =
    (reads_branches (scope_view l.s) (view.branches_tree l.bs) (strip_branches (branches_tree l.cs))
    && all_read l.fn.tasks.items)
    ≡ (both (λ x y. reads_branch (scope_view l.s) (view.branch_tree x) (strip_pattern (branch_tree y).1)
    (form_of (strip (branch_tree y).2))) (drop l.i (plain.out-Branches l.bs).items.items)
    (drop l.i (out-Branches l.cs).items.items) && all_read l.tasks.items)
