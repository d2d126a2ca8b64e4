use Rattle.std.proofs.Common.{◌≡◌, ◌+◌, ◌≤◌, ◌^◌, ◌++◌, length, map}
use Rattle.plain_tree.specs.ConView.{pat_field_tree}
use Rattle.desugar_values.specs.View.{meaning_tree, meanings_from, meanings_tree}
use Rattle.desugar_types.specs.Patterns.{components}
use Rattle.desugar_types.proofs.patterns.add_components.Given as goal

abbrev pub invariant-loop-part : goal.invariant-loop-part
invariant-loop-part l =
    (map pat_field_tree l.items.items
    ++ components l.number (meanings_from (map meaning_tree l.part-iterator.rest.items))
    ≡ map pat_field_tree l.fn.items.items ++ components 3 (meanings_tree l.fn.more))
    × (l.number + length l.part-iterator.rest.items ≤ 3 + 2 ^ 63)
