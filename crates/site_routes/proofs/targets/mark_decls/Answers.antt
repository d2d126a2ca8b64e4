use Rattle.std.proofs.Common.{◌<◌, length, map, refl, arith}
use Rattle.std.specs.List.{flat_map}
use Rattle.core_terms.specs.View.{decl_tree}
use Rattle.site_routes.specs.Marking.{decl_targets}
use Rattle.site_routes.specs.View.{targets_view}
use Rattle.site_routes.proofs.Marks.{marked_on}
use Rattle.site_routes.proofs.targets.mark_decls.Goals as goal

pub loop-i-preserved : goal.loop-i-preserved
loop-i-preserved c =
    let xs = c.args.decls.now.items in
    let h : c.loop-i.i < length xs.items = omega (arith, xs.ok.0) in
    marked_on (λ ys. flat_map decl_targets (map decl_tree ys)) (λ d. decl_targets (decl_tree d)) (λ d ys. refl) xs.items c.loop-i.i c.index.result.now
    (targets_view c.loop-i.targets) (targets_view c.mark_decl.new.targets) _ c.index.ensures h c.in_ok-mark_decl.ensures c.loop-i.invariant
