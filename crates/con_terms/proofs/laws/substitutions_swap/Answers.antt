use Rattle.std.proofs.Common.{refl}
use Rattle.con_terms.proofs.Walks.{subst_subst}
use Rattle.con_terms.proofs.laws.substitutions_swap.Goals as goal

pub returns : goal.returns
returns c = λ x b y d m. subst_subst d _ m x b y refl
