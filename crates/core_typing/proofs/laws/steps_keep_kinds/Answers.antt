use Rattle.core_typing.proofs.KindsKept.{step_kept}
use Rattle.core_typing.proofs.laws.steps_keep_kinds.Goals as goal

pub returns : goal.returns
returns s = λ G c d k h e. step_kept h d e
