use Rattle.site_routes.specs.View.{targets_view}
use Rattle.site_routes.proofs.Listed.{got_by_link, got_by_export}
use Rattle.site_routes.proofs.site.is_got.Goals as goal

pub returns-then-is_marked : goal.returns-then-is_marked
returns-then-is_marked c = λ p n t u l.
    got_by_link p n c.args.i (targets_view c.args.called.now) c.is_marked.result c.is_marked.ensures c.if-is_marked.true t l

pub returns-else-is_marked : goal.returns-else-is_marked
returns-else-is_marked c = λ p n t u l.
    got_by_export p n c.args.i (targets_view c.args.called.now) c.is_marked.result c.is_marked-else-is_marked.result c.args.exports.now.items
    c.is_marked.ensures c.if-is_marked.false c.is_marked-else-is_marked.ensures t u l
