use Rattle.core_checker.proofs.Tops.{data_is}
use Rattle.core_checker.proofs.declarations.data_found.Goals as goal

pub returns : goal.returns
returns c =
    data_is c.args.g.now c.args.s.now c.in_ok-inner.inner c.args.d.now c.constructors_found.result c.requires
    c.in_ok-inner.ensures c.constructors_found.ensures
