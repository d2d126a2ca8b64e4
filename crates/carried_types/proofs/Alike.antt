-- Types that are computed to be alike are so.
use Rattle.std.proofs.Common.{◌≡◌, Bool, true, refl, ap, sym, ◌∙◌, Result, Ok, Err}
use Rattle.std.specs.Bool.{Decides}
use Rattle.con_terms.specs.Trees.{Cn}
use Rattle.row_normal.proofs.SameTrees.{cn_eq_same, cn_eq_refl}
use Rattle.kind_rules.specs.Flaws.{Flw}
use Rattle.kind_rules.specs.Compared.{comparison_units, normal_forms}
use Rattle.core_typing.specs.Compared.{Alike}
use Rattle.judgements.specs.Comparisons.{same_forms, are_alike}

pub forms_same : (a b : Cn) (r : Result (Cn × Cn) Flw) → normal_forms comparison_units a b ≡ r → same_forms r ≡ true → Alike a b
forms_same a b (Err w) e h = absurd (cc)
forms_same a b (Ok mn) e h = record { form = mn.0; forms = e ∙ ap (λ (z : Cn). Ok (mn.0, z)) (sym (cn_eq_same mn.0 mn.1 h)) }

pub alike_is : (a b : Cn) → are_alike a b ≡ true → Alike a b
alike_is a b h = forms_same a b (normal_forms comparison_units a b) refl h

pub is_alike : (a b : Cn) → Alike a b → are_alike a b ≡ true
is_alike a b l = ap same_forms l.forms ∙ cn_eq_refl l.form

pub alike_decided : (a b : Cn) → Decides (are_alike a b) (Alike a b)
alike_decided a b = (alike_is a b, is_alike a b)
