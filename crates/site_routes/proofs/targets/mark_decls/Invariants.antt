use Rattle.std.proofs.Common.{◌≡◌, map, drop}
use Rattle.std.specs.List.{flat_map}
use Rattle.core_terms.specs.View.{decl_tree, decls_view}
use Rattle.site_routes.specs.Marking.{decl_targets, mark_all}
use Rattle.site_routes.specs.View.{targets_view}
use Rattle.site_routes.proofs.targets.mark_decls.Given as goal

abbrev pub invariant-loop-i : goal.invariant-loop-i
invariant-loop-i l =
    mark_all (flat_map decl_targets (map decl_tree (drop l.i l.decls.items.items))) (targets_view l.targets)
    ≡ mark_all (flat_map decl_targets (decls_view l.decls)) (targets_view l.fn.targets)
