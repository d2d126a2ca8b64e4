use Rattle.std.proofs.Common.{◌≡◌, Ok, sym, ap, ◌∙◌, w64, to_z, of_z}
use Rattle.std.proofs.lemmas.Int.{to_z-of_z}
use Rattle.std.specs.Fmt.{signed_decimal}
use Rattle.link_router.proofs.Numbers.{number_is_text, number_parses, not_told_apart}
use Rattle.link_router.proofs.leaves.number.Goals as goal

pub returns-in_default-clause-none : goal.returns-in_default-clause-none
returns-in_default-clause-none c z n = c.in_default.ensures.cases.0 (number_is_text n)

pub returns-in_default-parse-clause-none : goal.returns-in_default-parse-clause-none
returns-in_default-parse-clause-none c z n =
    let parsed : c.parse.result ≡ Ok z = number_parses n c.in-Ok.ensures.cases.0 c.parse.ensures.value.0 in
    cc

pub returns-else-eq-clause-none : goal.returns-else-eq-clause-none
returns-else-eq-clause-none c z n =
    let parsed : c.parse.result ≡ Ok z = number_parses n c.in-Ok.ensures.cases.0 c.parse.ensures.value.0 in
    let same : c.in-Ok-parse.number ≡ z = cc in
    not_told_apart (c.format.ensures.text ∙ ap (λ y. signed_decimal (to_z w64 (of_z w64 y))) same ∙ ap signed_decimal (to_z-of_z w64 z n.fits) ∙ sym n.decimal ∙ sym c.in-Ok.ensures.cases.0) c.eq.ensures c.if-eq.false
