use Rattle.std.proofs.Common.{refl}
use Rattle.percent_encoding.specs.Percent.{percent_decode}
use Rattle.link_router.proofs.laws.paths_are_as_worked.Goals as goal

pub returns : goal.returns
unfolding percent_decode
returns c = (refl, refl, refl)
