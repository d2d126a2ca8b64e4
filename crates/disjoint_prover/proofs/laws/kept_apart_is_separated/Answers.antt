use Rattle.disjoint_prover.proofs.Sound.{kept_separated}
use Rattle.disjoint_prover.proofs.laws.kept_apart_is_separated.Goals as goal

pub returns : goal.returns
returns c = kept_separated
