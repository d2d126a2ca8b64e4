use Rattle.std.proofs.Common.{◌≡◌, ◌&&◌, drop}
use Rattle.core_terms.specs.Strip.{strip_named}
use Rattle.core_terms.specs.View.{named_list_tree, named_tree}
use Rattle.core_terms.specs.declared.exp.Form.TheViews.{out-NamedList}
use Rattle.plain_tree.specs.ExpView as view
use Rattle.plain_tree.specs.declared.exp.Form.TheViews as plain
use Rattle.source_names.specs.View.{scope_view}
use Rattle.source_terms.specs.Parts.{reads_name}
use Rattle.source_terms.specs.Tasks.{all_read}
use Rattle.source_terms.specs.Terms.{reads_group}
use Rattle.source_terms.proofs.Pairs.{both}
use Rattle.source_terms.proofs.lets.are_names.Given as goal

abbrev pub invariant-loop-i : goal.invariant-loop-i
invariant-loop-i l =
    (reads_group (scope_view l.s) (view.named_list_tree l.ns) (strip_named (named_list_tree l.ms))
    && all_read l.fn.tasks.items)
    ≡ (both (λ x y. reads_name (scope_view l.s) (view.named_tree x) (named_tree y))
    (drop l.i (plain.out-NamedList l.ns).items.items) (drop l.i (out-NamedList l.ms).items.items)
    && all_read l.tasks.items)
