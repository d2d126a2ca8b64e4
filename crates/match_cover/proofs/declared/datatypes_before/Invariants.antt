use Rattle.std.proofs.Common.{◌≡◌, ◌≤◌, map}
use Rattle.core_terms.specs.View.{datatype_view, decls_view}
use Rattle.core_typing.specs.Declarations.{datatypes_before}
use Rattle.match_cover.proofs.declared.datatypes_before.Given as goal

abbrev pub invariant-loop-i : goal.invariant-loop-i
invariant-loop-i l = (map datatype_view l.all.items ≡ datatypes_before l.i (decls_view l.decls)) × (l.i ≤ l.counted)
