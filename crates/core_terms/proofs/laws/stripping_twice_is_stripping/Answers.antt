use Rattle.core_terms.proofs.Stripping.{strip_twice}
use Rattle.core_terms.proofs.laws.stripping_twice_is_stripping.Goals as goal

pub returns : goal.returns
returns c = strip_twice
