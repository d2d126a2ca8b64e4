use Rattle.std.proofs.Common.{◌≡◌, ◌&&◌, drop}
use Rattle.core_terms.specs.Lists.{attribute_tree}
use Rattle.core_terms.specs.Strip.{strip_attributes}
use Rattle.core_terms.specs.View.{attributes_tree}
use Rattle.core_terms.specs.declared.exp.Form.TheViews.{out-Attributes}
use Rattle.plain_tree.specs.ExpView as view
use Rattle.plain_tree.specs.declared.exp.Form.TheViews as plain
use Rattle.source_names.specs.View.{scope_view}
use Rattle.source_terms.specs.Parts.{reads_attribute}
use Rattle.source_terms.specs.Tasks.{all_read}
use Rattle.source_terms.specs.Terms.{reads_attributes}
use Rattle.source_terms.proofs.Pairs.{both}
use Rattle.source_terms.proofs.markup.are_attributes.Given as goal

abbrev pub invariant-loop-i : goal.invariant-loop-i
invariant-loop-i l =
    (reads_attributes (scope_view l.s) (view.attributes_tree l.bs) (strip_attributes (attributes_tree l.cs))
    && all_read l.fn.tasks.items)
    ≡ (both (λ x y. reads_attribute (scope_view l.s) (view.attribute_tree x) (attribute_tree y))
    (drop l.i (plain.out-Attributes l.bs).items.items) (drop l.i (out-Attributes l.cs).items.items)
    && all_read l.tasks.items)
