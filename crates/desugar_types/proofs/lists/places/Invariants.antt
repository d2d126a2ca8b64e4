use Rattle.std.proofs.Common.{◌≡◌, ◌++◌, map}
use Rattle.desugar_values.specs.View.{meaning_tree, meanings_from}
use Rattle.desugar_types.specs.Lists.{places_of}
use Rattle.desugar_types.proofs.lists.places.Given as goal

abbrev pub invariant-loop-part : goal.invariant-loop-part
invariant-loop-part l =
    l.items.items ++ places_of (meanings_from (map meaning_tree l.part-iterator.rest.items))
    ≡ places_of (meanings_from (map meaning_tree l.fn.trees.items))
