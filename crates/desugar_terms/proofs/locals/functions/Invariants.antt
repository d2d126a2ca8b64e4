use Rattle.std.proofs.Common.{◌≡◌, ◌∷◌, ◌++◌, map}
use Rattle.plain_tree.specs.ExpView.{named_tree}
use Rattle.desugar_values.specs.View.{meaning_tree, meanings_from, meanings_tree}
use Rattle.desugar_terms.specs.Locals.{functions}
use Rattle.desugar_terms.proofs.locals.functions.Given as goal

abbrev pub invariant-loop-part : goal.invariant-loop-part
invariant-loop-part l =
    map named_tree l.items.items ++ functions (meanings_from (map meaning_tree l.part-iterator.rest.items))
    ≡ named_tree l.fn.first ∷ functions (meanings_tree l.fn.more)
