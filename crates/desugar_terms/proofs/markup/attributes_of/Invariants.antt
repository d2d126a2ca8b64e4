use Rattle.std.proofs.Common.{◌≡◌, ◌++◌, map}
use Rattle.plain_tree.specs.ExpView.{attribute_tree}
use Rattle.desugar_values.specs.View.{meaning_tree, meanings_from, meanings_tree}
use Rattle.desugar_terms.specs.Markup.{attributes_of}
use Rattle.desugar_terms.proofs.markup.attributes_of.Given as goal

abbrev pub invariant-loop-part : goal.invariant-loop-part
invariant-loop-part l =
    map attribute_tree l.made.items ++ attributes_of (meanings_from (map meaning_tree l.part-iterator.rest.items))
    ≡ attributes_of (meanings_tree l.fn.several)
