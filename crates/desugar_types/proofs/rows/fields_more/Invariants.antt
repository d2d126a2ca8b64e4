use Rattle.std.proofs.Common.{◌≡◌, ◌++◌, map}
use Rattle.plain_tree.specs.ConView.{con_field_tree}
use Rattle.desugar_values.specs.View.{meaning_tree, meanings_from, meanings_tree}
use Rattle.desugar_types.specs.Rows.{fields_more}
use Rattle.desugar_types.proofs.rows.fields_more.Given as goal

abbrev pub invariant-loop-part : goal.invariant-loop-part
invariant-loop-part l =
    map con_field_tree l.all.items ++ fields_more (meanings_from (map meaning_tree l.part-iterator.rest.items))
    ≡ map con_field_tree l.fn.items.items ++ fields_more (meanings_tree l.fn.more)
