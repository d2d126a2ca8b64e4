-- Types that are their own normal forms.
use Rattle.std.proofs.Common.{◌≡◌, ◌<◌, ◌≤◌, ℕ, Bool, true, false, Option, Some, None, Ok, if◌then◌else◌, refl, ap, sym, ◌∙◌, arith}
use Rattle.con_terms.specs.Trees.{Cn}
use Rattle.con_terms.specs.Size.{depth}
use Rattle.con_terms.specs.declared.place.Place.{Place}
use Rattle.core_typing.specs.Faults.{mismatch}
use Rattle.core_typing.specs.Scopes.{Sc, normal_of}
use Rattle.judgements.specs.Comparisons.{are_alike, same_forms}
use Rattle.kind_rules.specs.Compared.{comparison_units, normal_forms, with_first, with_second}
use Rattle.row_normal.specs.NormalForm.{IsNormal, nf}
use Rattle.row_normal.specs.SameTree.{cn_eq}
use Rattle.row_normal.specs.Settled.{settled}
use Rattle.row_normal.proofs.NormalStays.{told_normal}
use Rattle.row_normal.proofs.SameTrees.{cn_eq_refl, cn_eq_same}
use Rattle.row_normal.proofs.SettledForms.{copy_normal}
use Rattle.told_faults.specs.Computed.{differing, wants}

-- what is settled and no deeper than the limit is its own normal form
pub own : (c : Cn) (answer : Bool) → depth c ≤ 2000 → answer ≡ settled c → answer ≡ true → IsNormal c
own c answer shallow is held = told_normal c (copy_normal c c refl (sym is ∙ held) shallow)

-- what is the same tree is one
pub one : (a b : Cn) (answer : Bool) → answer ≡ cn_eq a b → answer ≡ true → a ≡ b
one a b answer is held = cn_eq_same a b (sym is ∙ held)

units_left : 0 < comparison_units
unfolding comparison_units
units_left = omega arith

-- the normal form of such a type
pub own_form : (c : Cn) → IsNormal c → Some c ≡ normal_of c
own_form c stays = sym (ap (λ (o : Option (Cn × ℕ)). elim o [ None ↦ None | Some r ↦ Some r.0 ]) (stays comparison_units units_left))

-- the normal forms of two types that are one, which is its own normal form
both_own : (a b : Cn) → IsNormal a → a ≡ b → normal_forms comparison_units a b ≡ Ok (a, a)
both_own a b stays same =
    ap (λ (o : Option (Cn × ℕ)). with_first o b) (stays comparison_units units_left)
    ∙ ap (λ (c : Cn). with_second a (nf comparison_units c)) (sym same)
    ∙ ap (with_second a) (stays comparison_units units_left)

-- such types are alike
pub alike_own : (a b : Cn) → IsNormal a → a ≡ b → true ≡ are_alike a b
alike_own a b stays same = sym (ap same_forms (both_own a b stays same) ∙ cn_eq_refl a)

-- and nothing keeps one from being the other
nothing : (G : Sc) (p : Place) (a : Cn) (b : Bool) → b ≡ true → (if b then None else Some (mismatch p G.called a a)) ≡ None
nothing G p a true e = refl
nothing G p a false e = cc

pub wanted_own : (G : Sc) (p : Place) (a b : Cn) → IsNormal a → a ≡ b → None ≡ wants G p a b
wanted_own G p a b stays same = sym (ap (differing G p) (both_own a b stays same) ∙ nothing G p a (cn_eq a a) (cn_eq_refl a))
