use Rattle.std.proofs.Common.{◌≡◌, ◌++◌, map}
use Rattle.desugar_values.specs.View.{meaning_tree, meanings_from}
use Rattle.desugar_types.specs.Lists.{numbers_of}
use Rattle.desugar_types.proofs.lists.add_numbers.Given as goal

abbrev pub invariant-loop-part : goal.invariant-loop-part
invariant-loop-part l =
    l.items.items ++ numbers_of (meanings_from (map meaning_tree l.part-iterator.rest.items))
    ≡ l.fn.items.items ++ numbers_of (meanings_from (map meaning_tree l.fn.more.items))
