-- What a comparison tells.
use Rattle.std.proofs.Common.{◌≡◌, Bool, true, false, Result, Ok, Err, IfOk, if◌then◌else◌, refl, ap, sym, ◌∙◌, subst}
use Rattle.con_terms.specs.Trees.{Cn}
use Rattle.con_terms.specs.Equal.{Equal, same, back, step}
use Rattle.row_normal.specs.SameTree.{cn_eq}
use Rattle.row_normal.proofs.SameTrees.{cn_eq_refl, cn_eq_same}
use Rattle.kind_rules.specs.Comparison.{Comparison, alike, differing, told, told_of, compared, IsFair}
use Rattle.kind_rules.specs.Compared.{comparison_units, normal_forms}
use Rattle.kind_rules.specs.Flaws.{Flw}
use Rattle.kind_rules.specs.View.{comparison_tree}
use Rattle.kind_rules.specs.declared.compare.Comparison.{Comparison as ComparisonValue}
use Rattle.kind_rules.proofs.Sound.{forms_equal}

told_fair : (a b : Cn) (mn : Cn × Cn) → Equal a mn.0 → Equal b mn.1 → IsFair a b (told mn)
told_fair a b mn p q = by_test (cn_eq mn.0 mn.1) refl
  where
    by_test : (t : Bool) → cn_eq mn.0 mn.1 ≡ t → IsFair a b (if t then alike else differing mn.0 mn.1)
    by_test true e =
        let P : Cn → Type 0 = λ z. Equal a z in
        step (subst P (cn_eq_same mn.0 mn.1 e) p) (back q)
    by_test false e = (λ i. let t : cn_eq mn.0 mn.1 ≡ true = ap (cn_eq mn.0) (sym i) ∙ cn_eq_refl mn.0 in cc, p, q)

pub compared_fair : (a b : Cn) → IsFair a b (compared a b)
compared_fair a b = by_forms (normal_forms comparison_units a b) refl
  where
    by_forms : (r : Result (Cn × Cn) Flw) → normal_forms comparison_units a b ≡ r → IsFair a b (told_of r)
    by_forms (Err e) i = tt
    by_forms (Ok mn) i = let (p, q) = forms_equal comparison_units a b mn i in told_fair a b mn p q

pub told_alike : (m n : Cn) → m ≡ n → alike ≡ told (m, n)
told_alike m n e = ap (λ (t : Bool). if t then alike else differing m n) (sym (cn_eq_refl m) ∙ ap (cn_eq m) e)

pub told_differing : (m n : Cn) → (m ≡ n → ⊥) → differing m n ≡ told (m, n)
told_differing m n differ = by_test (cn_eq m n) refl
  where
    by_test : (t : Bool) → cn_eq m n ≡ t → differing m n ≡ (if t then alike else differing m n)
    by_test true e = absurd (differ (cn_eq_same m n e))
    by_test false e = refl

-- what is told of the normal forms of two sides is fair of the sides
pub fair_by_sides : {E : Type 0} (r : Result ComparisonValue E) (a b : Cn) (mn : Cn × Cn) → normal_forms comparison_units a b ≡ Ok mn → IfOk r (λ c. comparison_tree c ≡ told mn) → IfOk r (λ c. IsFair a b (comparison_tree c))
fair_by_sides (Ok c) a b mn e h = let P : Comparison → Type 0 = λ z. IsFair a b z in subst P (ap told_of e ∙ sym h) (compared_fair a b)
fair_by_sides (Err x) a b mn e h = tt
