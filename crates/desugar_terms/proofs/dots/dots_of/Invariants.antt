use Rattle.std.proofs.Common.{◌≡◌, ◌++◌, map}
use Rattle.plain_tree.specs.ExpView.{link_tree}
use Rattle.desugar_values.specs.View.{meaning_tree, meanings_from, meanings_tree}
use Rattle.desugar_terms.specs.Dots.{dots_of}
use Rattle.desugar_terms.proofs.dots.dots_of.Given as goal

abbrev pub invariant-loop-dot : goal.invariant-loop-dot
invariant-loop-dot l =
    map link_tree l.links.items ++ dots_of (meanings_from (map meaning_tree l.dot-iterator.rest.items))
    ≡ dots_of (meanings_tree l.fn.several)
