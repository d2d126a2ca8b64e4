use Rattle.core_typing.proofs.KindsKept.{contracted_kept, reduced_kept}
use Rattle.core_typing.proofs.laws.reduced_constructors_keep_kinds.Goals as goal

pub returns : goal.returns
returns s = λ G c d k room left now h e. contracted_kept (reduced_kept room left now c d h e)
