use Rattle.std.proofs.Common.{◌≡◌, drop, map}
use Rattle.core_terms.specs.Datatypes.{datatype_of}
use Rattle.core_terms.specs.View.{decl_tree, decls_view}
use Rattle.core_typing.specs.Declarations.{datatypes}
use Rattle.inserted_terms.proofs.items.datatype_with.Given as goal

abbrev pub invariant-loop-i : goal.invariant-loop-i
invariant-loop-i l =
    datatype_of (datatypes (decls_view l.program.decls)) l.s.number
    ≡ datatype_of (datatypes (map decl_tree (drop l.i l.decls))) l.s.number
