use Rattle.std.specs.List.{flat_map}
use Rattle.core_terms.specs.View.{decls_view}
use Rattle.site_routes.specs.Marking.{decl_targets}
use Rattle.site_routes.specs.View.{targets_view}
use Rattle.site_routes.proofs.Marks.{marks_tell}
use Rattle.site_routes.proofs.targets.called_by.Goals as goal

pub returns : goal.returns
returns c =
    marks_tell c.args.count (flat_map decl_targets (decls_view c.args.decls.now)) (targets_view c.in_ok-all.all) (targets_view c.mark_decls.new.targets) c.in_ok-all.ensures
    c.in_ok-mark_decls.ensures
