use Rattle.con_terms.proofs.Equals.{Equal_shift}
use Rattle.con_terms.proofs.laws.shift_keeps_equal.Goals as goal

pub returns : goal.returns
returns c = λ x y by from h. Equal_shift h by from
