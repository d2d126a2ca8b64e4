use Rattle.link_router.proofs.OneCall.{route_read, read_route}
use Rattle.link_router.proofs.laws.routes_are_read.Goals as goal

pub returns : goal.returns
returns c routes post target call n = (route_read routes post target call n, read_route routes post target call n)
