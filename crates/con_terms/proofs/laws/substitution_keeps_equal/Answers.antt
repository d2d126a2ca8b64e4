use Rattle.con_terms.specs.Equal.{step}
use Rattle.con_terms.proofs.Equals.{Equal_subst_at, Equal_argument}
use Rattle.con_terms.proofs.laws.substitution_keeps_equal.Goals as goal

pub returns : goal.returns
returns c = λ a b x y n h k. step (Equal_subst_at k a n) (Equal_argument h y n)
