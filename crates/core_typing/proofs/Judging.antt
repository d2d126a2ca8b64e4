-- What kinding finds, a constructor has.
use Rattle.std.proofs.Common.{◌≡◌, ℕ, Bool, true, false, List, [], ◌∷◌, Contains, Option, Some, None, Result, Ok, Err, if◌then◌else◌, refl, ap₂, subst}
use Rattle.con_terms.specs.Trees.{Kd, types, units, names, row_of, to, tuple_of, Cn}
use Rattle.con_terms.specs.Same.{kd_eq}
use Rattle.con_terms.specs.Equal.{Equal}
use Rattle.con_terms.specs.Kinded.{Scope, Kinded}
use Rattle.con_terms.proofs.SameKinds.{kd_eq_same}
use Rattle.disjoint_prover.proofs.Sound.{contains_head, contains_tail}
use Rattle.kind_rules.specs.Flaws.{Flw}
use Rattle.kind_rules.specs.Compared.{comparison_units, normal_forms}
use Rattle.kind_rules.specs.Rules.{and_then, both, unless, unlike, expects, expects_row}
use Rattle.kind_rules.specs.Rules as rules
use Rattle.kind_rules.specs.Kinding.{judged}
use Rattle.kind_rules.proofs.Sound.{judged_sound, forms_equal}
use Rattle.core_typing.specs.Scopes.{folder_of, Sc}
use Rattle.core_typing.specs.Judged.{HasKind, has, guard_forms}

number_is : (x y : ℕ) → Some x ≡ Some y → x ≡ y
number_is x y e = cc

unless_same : (o : Option Flw) (l k : Kd) → unless o l ≡ Ok k → l ≡ k
unless_same None l k h = cc
unless_same (Some w) l k h = cc

kinded_from : (G : Scope) (c : Cn) (k : Kd) (r : Result Kd Flw) → judged G c ≡ r → and_then r (expects k) ≡ Ok k → Kinded G c k
kinded_from G c k (Err w) e h = cc
kinded_from G c k (Ok l) e h = subst (λ x. Kinded G c x) (unless_same (unlike k l) l k h) (judged_sound G c l e)

pub has_kind : {G : Sc} {c : Cn} {k : Kd} → HasKind G c k → Kinded G.kinds c k
has_kind {G} {c} {k} (has h) = kinded_from G.kinds c k (judged G.kinds c) refl h

-- a row, of whatever kind
row_at : (G : Scope) (c : Cn) (k j : Kd) → judged G c ≡ Ok k → expects_row k ≡ Ok j → (l : Kd) × Kinded G c (row_of l)
row_at G c (row_of l) j e h = (l, judged_sound G c (row_of l) e)
row_at G c types j e h = cc
row_at G c units j e h = cc
row_at G c names j e h = cc
row_at G c (to a b) j e h = cc
row_at G c (tuple_of ks) j e h = cc

-- the two sides of a guard are rows, and equal to their normal forms
pub record Sides (G : Scope) (c d m n : Cn) : Type 0 where
  pub left_kind : Kd
  pub right_kind : Kd
  pub left : Kinded G c (row_of left_kind)
  pub right : Kinded G d (row_of right_kind)
  pub left_form : Equal c m
  pub right_form : Equal d n

rows_from : (G : Scope) (c d m n : Cn) (k l : Kd) (r s : Result Kd Flw) → judged G c ≡ Ok k → judged G d ≡ Ok l → expects_row k ≡ r → expects_row l ≡ s → and_then (both r s) (λ _. normal_forms comparison_units c d) ≡ Ok (m, n) → Sides G c d m n
rows_from G c d m n k l (Err w) s e f g i h = cc
rows_from G c d m n k l (Ok a) (Err w) e f g i h = cc
rows_from G c d m n k l (Ok a) (Ok b) e f g i h =
    let (u, x) = row_at G c k a e g in
    let (v, y) = row_at G d l b f i in
    let (p, q) = forms_equal comparison_units c d (m, n) h in
    record { left_kind = u; right_kind = v; left = x; right = y; left_form = p; right_form = q }

sides_from : (G : Scope) (c d m n : Cn) (r s : Result Kd Flw) → judged G c ≡ r → judged G d ≡ s → rules.guard_sides c d (both r s) ≡ Ok (m, n) → Sides G c d m n
sides_from G c d m n (Err w) s e f h = cc
sides_from G c d m n (Ok k) (Err w) e f h = cc
sides_from G c d m n (Ok k) (Ok l) e f h = rows_from G c d m n k l (expects_row k) (expects_row l) e f refl refl h

pub guard_sides : (G : Scope) (c d m n : Cn) → guard_forms G c d ≡ Ok (m, n) → Sides G c d m n
guard_sides G c d m n h = sides_from G c d m n (judged G c) (judged G d) refl refl h

-- the folder that is found is there
pub folder_there : (fs : List (Kd × ℕ)) (k : Kd) (s : ℕ) → folder_of fs k ≡ Some s → Contains fs (k, s)
folder_there [] k s e = cc
folder_there (f ∷ fs) k s e = by_test (kd_eq f.0 k) refl (folder_there fs k s) e
  where
    by_test : (b : Bool) → kd_eq f.0 k ≡ b → (folder_of fs k ≡ Some s → Contains fs (k, s)) → (if b then Some f.1 else folder_of fs k) ≡ Some s → Contains (f ∷ fs) (k, s)
    by_test true h later e =
        let i : f.0 ≡ k = kd_eq_same f.0 k h in
        let j : f.1 ≡ s = number_is f.1 s e in
        subst (λ x. Contains (f ∷ fs) x) (ap₂ (λ a b. (a, b)) i j) (contains_head f fs)
    by_test false h later e = contains_tail (k, s) f fs (later e)
