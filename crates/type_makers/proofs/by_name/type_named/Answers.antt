use Rattle.std.proofs.Common.{◌≡◌, ◌≢◌, IfSome, sym, subst}
use Rattle.std.specs.Option.{IfNone}
use Rattle.core_terms.specs.BasisTexts.{type_text}
use Rattle.core_terms.specs.declared.basis.TypeName.{TypeName}
use Rattle.type_makers.proofs.Lookup.{has_name}
use Rattle.type_makers.proofs.BasisLists.{types, no_type}
use Rattle.type_makers.proofs.by_name.type_named.Goals as goal

pub returns-clause-some : goal.returns-clause-some
returns-clause-some c = subst (λ r. IfSome r (λ x. type_text x ≡ c.args.text.now)) (sym c.type_among.ensures) (has_name type_text types c.args.text.now)

pub returns-clause-none : goal.returns-clause-none
returns-clause-none c = subst (λ r. IfNone r ((x : TypeName) → type_text x ≢ c.args.text.now)) (sym c.type_among.ensures) (no_type c.args.text.now)
