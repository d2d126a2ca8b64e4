use Rattle.std.proofs.Common.{◌≡◌, ◌≢◌, IfSome, sym, subst}
use Rattle.std.specs.Option.{IfNone}
use Rattle.core_terms.specs.BasisTexts.{value_text}
use Rattle.core_terms.specs.declared.basis.BasisName.{BasisName}
use Rattle.type_makers.proofs.Lookup.{has_name}
use Rattle.type_makers.proofs.BasisLists.{values, no_value}
use Rattle.type_makers.proofs.by_name.value_named.Goals as goal

pub returns-clause-some : goal.returns-clause-some
returns-clause-some c = subst (λ r. IfSome r (λ x. value_text x ≡ c.args.text.now)) (sym c.value_among.ensures) (has_name value_text values c.args.text.now)

pub returns-clause-none : goal.returns-clause-none
returns-clause-none c = subst (λ r. IfNone r ((x : BasisName) → value_text x ≢ c.args.text.now)) (sym c.value_among.ensures) (no_value c.args.text.now)
