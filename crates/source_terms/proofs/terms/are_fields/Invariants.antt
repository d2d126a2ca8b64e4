use Rattle.std.proofs.Common.{◌≡◌, ◌&&◌, drop}
use Rattle.core_terms.specs.Lists.{field_tree}
use Rattle.core_terms.specs.Strip.{strip_fields}
use Rattle.core_terms.specs.View.{fields_tree}
use Rattle.core_terms.specs.declared.exp.Form.TheViews.{out-Fields}
use Rattle.plain_tree.specs.ExpView as view
use Rattle.plain_tree.specs.declared.exp.Form.TheViews as plain
use Rattle.source_names.specs.View.{scope_view}
use Rattle.source_terms.specs.Parts.{reads_field}
use Rattle.source_terms.specs.Tasks.{all_read}
use Rattle.source_terms.specs.Terms.{reads_fields}
use Rattle.source_terms.proofs.Pairs.{both}
use Rattle.source_terms.proofs.terms.are_fields.Given as goal

abbrev pub invariant-loop-i : goal.invariant-loop-i
invariant-loop-i l =
    (reads_fields (scope_view l.s) (view.fields_tree l.fs) (strip_fields (fields_tree l.gs))
    && all_read l.fn.tasks.items)
    ≡ (both (λ x y. reads_field (scope_view l.s) (view.field_tree x) (field_tree y))
    (drop l.i (plain.out-Fields l.fs).items.items) (drop l.i (out-Fields l.gs).items.items)
    && all_read l.tasks.items)
