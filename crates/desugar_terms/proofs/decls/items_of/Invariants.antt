use Rattle.std.proofs.Common.{◌≡◌, ◌++◌, map}
use Rattle.plain_tree.specs.View.{decl_tree}
use Rattle.desugar_values.specs.View.{meaning_tree, meanings_from, meanings_tree}
use Rattle.desugar_terms.specs.Decls.{decls_of}
use Rattle.desugar_terms.proofs.decls.items_of.Given as goal

abbrev pub invariant-loop-part : goal.invariant-loop-part
invariant-loop-part l =
    map decl_tree l.items.items ++ decls_of (meanings_from (map meaning_tree l.part-iterator.rest.items))
    ≡ decls_of (meanings_tree l.fn.several)
