use Rattle.core_typing.proofs.Founded.{found_typed}
use Rattle.judged_terms.proofs.Main.{sound}
use Rattle.judged_terms.proofs.laws.judged_is_found.Goals as goal

pub returns-clause-found : goal.returns-clause-found
returns-clause-found c = sound

pub returns-clause-typed : goal.returns-clause-typed
returns-clause-typed c = λ G e j t x h n. found_typed (sound G e j x t h n)
