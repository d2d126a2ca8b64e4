use Rattle.std.proofs.Common.{map, drop}
use Rattle.std.specs.List.{AllByRecursion}
use Rattle.core_terms.specs.View.{decl_tree, decls_view}
use Rattle.program_forms.specs.Values.{DeclStands}
use Rattle.program_forms.proofs.values.values_stand.Given as goal

abbrev pub invariant-loop-i : goal.invariant-loop-i
invariant-loop-i l =
    AllByRecursion (DeclStands l.modules l.count) (map decl_tree (drop l.i l.ds.items.items)) → AllByRecursion (DeclStands l.modules l.count) (decls_view l.ds)
