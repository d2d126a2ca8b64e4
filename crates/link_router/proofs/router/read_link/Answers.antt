use Rattle.std.proofs.Common.{sym, subst, IfOk, IfErr}
use Rattle.link_router.specs.RouteLaws.{ReadAs}
use Rattle.link_router.specs.Answered.{IsRefusal}
use Rattle.link_router.specs.View.{routes_view, call_view}
use Rattle.link_router.proofs.Answering.{routed, each_routed, each_refused}
use Rattle.link_router.proofs.router.read_link.Goals as goal

pub returns-clause-route : goal.returns-clause-route
returns-clause-route c n =
    routed _ _ _ c.called.result n (subst (λ t. IfOk c.called.result (λ call. ReadAs (routes_view c.args.routes.now) c.args.post t (call_view call))) c.as_bytes.ensures c.called.ensures.read)

pub returns-clause-each_route : goal.returns-clause-each_route
returns-clause-each_route c n =
    each_routed _ _ _ c.called.result n
    (subst (λ t. IfOk c.called.result (λ call. ReadAs (routes_view c.args.routes.now) c.args.post t (call_view call))) c.as_bytes.ensures c.called.ensures.read)
    (subst (λ t. IfErr c.called.result (λ fault. IsRefusal (routes_view c.args.routes.now) c.args.post t fault)) c.as_bytes.ensures c.called.ensures.refused)

pub returns-clause-each_refusal : goal.returns-clause-each_refusal
returns-clause-each_refusal c n =
    each_refused _ _ _ c.called.result n
    (subst (λ t. IfOk c.called.result (λ call. ReadAs (routes_view c.args.routes.now) c.args.post t (call_view call))) c.as_bytes.ensures c.called.ensures.read)
    (subst (λ t. IfErr c.called.result (λ fault. IsRefusal (routes_view c.args.routes.now) c.args.post t fault)) c.as_bytes.ensures c.called.ensures.refused)
