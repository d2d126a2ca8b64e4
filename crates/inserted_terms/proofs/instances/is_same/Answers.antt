use denote.Enum.Bare.{same_true}
use Rattle.std.proofs.Common.{◌∙◌, sym, rules}
use Rattle.core_terms.specs.contracts.basis.BasisName.{the_type}
use Rattle.inserted_terms.proofs.instances.is_same.Goals as goal

pub returns : goal.returns
returns c = λ yes. same_true the_type (search rules) _ _ (sym c.eq.ensures ∙ search (rules, yes))
