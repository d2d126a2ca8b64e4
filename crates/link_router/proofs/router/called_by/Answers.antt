use Rattle.link_router.specs.View.{routes_view}
use Rattle.link_router.proofs.Answering.{read_at, refused_at}
use Rattle.link_router.proofs.router.called_by.Goals as goal

pub returns-in-Some-clause-read : goal.returns-in-Some-clause-read
returns-in-Some-clause-read c target e = read_at (routes_view c.args.routes.now) _ target _ _ _ _ c.called_at.result e c.in-Some.ensures.some c.called_at.ensures.read

pub returns-in-Some-clause-refused : goal.returns-in-Some-clause-refused
returns-in-Some-clause-refused c target e = refused_at (routes_view c.args.routes.now) _ target _ _ _ _ c.called_at.result e c.in-Some.ensures.some c.called_at.ensures.refused

pub returns-in-None-clause-refused : goal.returns-in-None-clause-refused
returns-in-None-clause-refused c target e = c.astray.ensures target e c.in-None.ensures.none
