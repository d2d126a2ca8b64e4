use Rattle.std.proofs.Common.{◌≡◌, ◌++◌, map}
use Rattle.plain_tree.specs.ExpView.{link_tree}
use Rattle.desugar_values.specs.View.{meaning_tree, meanings_from, meanings_tree}
use Rattle.desugar_terms.specs.Chains.{links_of}
use Rattle.desugar_terms.proofs.chains.links_of.Given as goal

abbrev pub invariant-loop-part : goal.invariant-loop-part
invariant-loop-part l =
    map link_tree l.items.items ++ links_of (meanings_from (map meaning_tree l.part-iterator.rest.items))
    ≡ links_of (meanings_tree l.fn.several)
