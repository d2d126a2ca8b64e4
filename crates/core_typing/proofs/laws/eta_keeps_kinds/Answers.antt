use Rattle.core_typing.proofs.KindsKept.{contracted_kept}
use Rattle.core_typing.proofs.laws.eta_keeps_kinds.Goals as goal

pub returns : goal.returns
returns s = λ G c k h. contracted_kept h
