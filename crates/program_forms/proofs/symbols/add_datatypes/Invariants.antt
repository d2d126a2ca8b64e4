use Rattle.std.proofs.Common.{◌≡◌, ◌++◌, map, drop}
use Rattle.core_terms.specs.View.{decl_tree, decls_view}
use Rattle.core_typing.specs.Declarations.{datatypes}
use Rattle.core_typing.specs.Scopes.{datatype_kinds}
use Rattle.program_forms.proofs.symbols.add_datatypes.Given as goal

abbrev pub invariant-loop-i : goal.invariant-loop-i
invariant-loop-i l =
    l.symbols.items ++ map (λ k. k.0) (datatype_kinds (datatypes (map decl_tree (drop l.i l.ds.items.items)))) ≡ l.initial.symbols.items ++ map (λ k. k.0) (datatype_kinds (datatypes (decls_view l.ds)))
