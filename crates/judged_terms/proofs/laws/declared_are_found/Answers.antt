use Rattle.judged_terms.proofs.Main.{sound, named_sound}
use Rattle.judged_terms.proofs.Lets.{one_found}
use Rattle.judged_terms.proofs.Listed.{names_judged}
use Rattle.judged_terms.proofs.laws.declared_are_found.Goals as goal

pub returns-clause-one : goal.returns-clause-one
returns-clause-one c = λ G H p q t e j r x y. one_found G H p q t e j r (sound H e j x) y

pub returns-clause-together : goal.returns-clause-together
returns-clause-together c = λ G H ns js r x y. named_sound G H ns js r (names_judged H ns js x) y
