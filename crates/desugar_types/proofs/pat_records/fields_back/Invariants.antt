use Rattle.std.proofs.Common.{◌≡◌, [], map, reverse}
use Rattle.plain_tree.specs.ConView.{pat_field_tree}
use Rattle.desugar_values.specs.View.{meaning_tree, meanings_from, meanings_tree}
use Rattle.desugar_types.specs.PatRecords.{fields_before}
use Rattle.desugar_types.proofs.pat_records.fields_back.Given as goal

abbrev pub invariant-loop-part : goal.invariant-loop-part
invariant-loop-part l =
    fields_before (meanings_from (map meaning_tree l.part-iterator.rest.items))
    (map pat_field_tree (reverse l.items.items))
    ≡ fields_before (meanings_tree l.fn.fields) []
