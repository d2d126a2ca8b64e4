use Rattle.std.proofs.Common.{◌≡◌, ◌+◌, ◌++◌, map, length}
use Rattle.plain_tree.specs.ExpView.{field_tree}
use Rattle.desugar_values.specs.View.{meaning_tree, meanings_from, meanings_tree}
use Rattle.desugar_terms.specs.Groups.{components_of}
use Rattle.desugar_terms.proofs.groups.with_components.Given as goal

abbrev pub invariant-loop-part : goal.invariant-loop-part
invariant-loop-part l =
    map field_tree l.fields.items
    ++ components_of (length l.fields.items + 1) (meanings_from (map meaning_tree l.part-iterator.rest.items))
    ≡ map field_tree l.fn.before.items ++ components_of (length l.fn.before.items + 1) (meanings_tree l.fn.several)
