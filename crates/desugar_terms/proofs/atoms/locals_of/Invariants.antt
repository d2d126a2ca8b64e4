use Rattle.std.proofs.Common.{◌≡◌, ◌++◌, map}
use Rattle.plain_tree.specs.ExpView.{local_tree}
use Rattle.desugar_values.specs.View.{meaning_tree, meanings_from, meanings_tree}
use Rattle.desugar_terms.specs.Atoms.{locals_of}
use Rattle.desugar_terms.proofs.atoms.locals_of.Given as goal

abbrev pub invariant-loop-local : goal.invariant-loop-local
invariant-loop-local l =
    map local_tree l.locals.items ++ locals_of (meanings_from (map meaning_tree l.local-iterator.rest.items))
    ≡ locals_of (meanings_tree l.fn.several)
