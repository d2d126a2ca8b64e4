use Rattle.std.proofs.Common.{◌≡◌, map, length, slice_get}
use Rattle.core_terms.specs.View.{decls_view, decl_tree}
use Rattle.core_typing.specs.Declarations.{datatypes}
use Rattle.wire_values.specs.Known.{symbols_in}
use Rattle.wire_values.proofs.symbols.declared.Given as goal

abbrev pub invariant-loop-first : goal.invariant-loop-first
invariant-loop-first l = slice_get (symbols_in (datatypes (map decl_tree l.rest))) l.left
    ≡ slice_get (symbols_in (datatypes (decls_view l.decls))) l.number

abbrev pub decreases-loop-first : goal.decreases-loop-first
decreases-loop-first l = length l.rest
