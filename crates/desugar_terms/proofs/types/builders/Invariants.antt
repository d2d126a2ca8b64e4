use Rattle.std.proofs.Common.{◌≡◌, ◌∷◌, ◌++◌, map}
use Rattle.plain_tree.specs.View.{builder_tree}
use Rattle.desugar_values.specs.View.{meaning_tree, meanings_from, meanings_tree}
use Rattle.desugar_terms.specs.Types.{builders_of}
use Rattle.desugar_terms.proofs.types.builders.Given as goal

abbrev pub invariant-loop-part : goal.invariant-loop-part
invariant-loop-part l =
    map builder_tree l.items.items ++ builders_of (meanings_from (map meaning_tree l.part-iterator.rest.items))
    ≡ builder_tree l.fn.first ∷ builders_of (meanings_tree l.fn.more)
