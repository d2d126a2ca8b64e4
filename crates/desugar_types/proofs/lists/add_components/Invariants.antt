use Rattle.std.proofs.Common.{◌≡◌, suc, ◌++◌, length, map}
use Rattle.plain_tree.specs.ConView.{con_field_tree}
use Rattle.desugar_values.specs.View.{meaning_tree, meanings_from}
use Rattle.desugar_types.specs.Lists.{components_of}
use Rattle.desugar_types.proofs.lists.add_components.Given as goal

abbrev pub invariant-loop-part : goal.invariant-loop-part
invariant-loop-part l =
    map con_field_tree l.all.items
    ++ components_of (suc (length l.all.items)) (meanings_from (map meaning_tree l.part-iterator.rest.items))
    ≡ map con_field_tree l.fn.items.items
    ++ components_of (suc (length l.fn.items.items)) (meanings_from (map meaning_tree l.fn.more.items))
