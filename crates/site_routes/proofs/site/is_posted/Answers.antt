use Rattle.site_routes.specs.View.{targets_view}
use Rattle.site_routes.proofs.Listed.{posted_by}
use Rattle.site_routes.proofs.site.is_posted.Goals as goal

pub returns : goal.returns
returns c = λ p n t l. posted_by p n c.args.i (targets_view c.args.called.now) c.is_marked.result c.is_marked.ensures t l
