use Rattle.std.proofs.Common.{◌≡◌, ◌++◌, map, drop}
use Rattle.core_terms.specs.View.{decl_tree, decls_view, program_view}
use Rattle.core_typing.specs.Declarations.{values}
use Rattle.site_routes.specs.Linked.{linked}
use Rattle.site_routes.specs.View.{value_view}
use Rattle.site_routes.proofs.values.values_of.Given as goal

abbrev pub invariant-loop-i : goal.invariant-loop-i
invariant-loop-i l =
    map value_view l.all.items ++ map (linked (program_view l.p)) (values (map decl_tree (drop l.i l.p.decls.items.items)))
    ≡ map (linked (program_view l.p)) (values (decls_view l.p.decls))
