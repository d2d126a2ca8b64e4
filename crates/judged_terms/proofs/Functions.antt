-- Functions, and terms with their types.
use Rattle.std.proofs.Common.{◌≡◌, ℕ, Bool, List, [], ◌∷◌, Option, Some, None, option_map, Result, Ok, Err, refl, ap, sym, ◌∙◌, subst}
use Rattle.con_terms.specs.Trees.{Kd, types, Cn, arrow, poly, guarded}
use Rattle.con_terms.specs.declared.place.Place.{Place}
use Rattle.kind_rules.specs.Flaws.{Flw}
use Rattle.kind_rules.specs.Kinding.{judged_at}
use Rattle.core_terms.specs.Trees.{Pt, Ex, node, fn, fn_con, fn_guard, ascribed}
use Rattle.core_typing.specs.Scopes.{Sc, under, under_con, under_guard}
use Rattle.core_typing.specs.Cover.{Covers}
use Rattle.core_typing.specs.Faults.{Fault}
use Rattle.core_typing.specs.Judged.{HasKind, guard_forms}
use Rattle.core_typing.specs.Found.{FoundBy, fn_has, fn_con_has, fn_guard_has, ascribed_has}
use Rattle.core_typing.specs.PatternFaults.{PatFound}
use Rattle.told_faults.specs.Computed.{Jd, first, flawed, wants, on_type}
use Rattle.told_faults.specs.Heads.{Kindly, kindly, unkind}
use Rattle.told_faults.proofs.Parts.{kind_is}
use Rattle.judgements.specs.Bindings.{Bd, bind_these, bad_pattern, having}
use Rattle.node_rules.specs.Functions.{of_body, of_fn_con, of_assuming, unless_told, written, of_ascribed}
use Rattle.pattern_rules.specs.Binds.{binding}
use Rattle.pattern_rules.specs.Matching.{Br, bad_branch, judged_branch}
use Rattle.pattern_rules.proofs.Bound.{BindsAs, Binds, pattern_binds}
use Rattle.judged_terms.specs.Openings.{bound_scope, pattern_scope, sides_scope, guard_scope, BranchIn, WholeIn, UnlessTold}
use Rattle.judged_terms.specs.Judge.{OfFunction, OfParameter}
use Rattle.judged_terms.specs.Laws.{Sound}
use Rattle.judged_terms.proofs.Basics.{some_is, none_some, untyped, by_faulty, as_judged, first_parts, alike, covered}

-- fn [x :: k] => e
pub fn_con_sound : (G : Sc) (p : Place) (a i w : Bool) (x : ℕ) (k : Kd) (e : Ex) (j : Jd) → Sound (under_con x k G) e j → Sound G (node p a (fn_con x i w k e)) (of_fn_con i k j)
fn_con_sound G p a i w x k e j v = λ t h n. by_type j.type refl t h n
  where
    by_type : (o : Option Cn) → j.type ≡ o → (t : Cn) → option_map (poly i k) o ≡ Some t → j.told ≡ None → FoundBy Covers G (node p a (fn_con x i w k e)) t
    by_type None m t h n = absurd (none_some h)
    by_type (Some u) m t h n = subst (λ z. FoundBy Covers G (node p a (fn_con x i w k e)) z) (some_is h) (fn_con_has (v u m n))

-- fn [c ~ d] => e
assuming_sound : (G : Sc) (p : Place) (a : Bool) (c d m n : Cn) (e : Ex) (j : Jd) → guard_forms G.kinds c d ≡ Ok (m, n) → Sound (under_guard m n G) e j → Sound G (node p a (fn_guard c d e)) (of_assuming c d j)
assuming_sound G p a c d m n e j g v = λ t h k. by_type j.type refl t h k
  where
    by_type : (o : Option Cn) → j.type ≡ o → (t : Cn) → option_map (guarded c d) o ≡ Some t → j.told ≡ None → FoundBy Covers G (node p a (fn_guard c d e)) t
    by_type None i t h k = absurd (none_some h)
    by_type (Some u) i t h k = subst (λ z. FoundBy Covers G (node p a (fn_guard c d e)) z) (some_is h) (fn_guard_has g (v u i k))

sides_sound : (G : Sc) (p : Place) (a : Bool) (c d : Cn) (e : Ex) (j : Jd) (J : Sc → Jd → Type 0) (r : Result (Cn × Cn) Flw) → guard_forms G.kinds c d ≡ r → ((H : Sc) (k : Jd) → J H k → Sound H e k) → WholeIn (sides_scope G p r) (λ H k. (b : Jd) × (J H b × (k ≡ of_assuming c d b))) j → Sound G (node p a (fn_guard c d e)) j
sides_sound G p a c d e j J (Err w) g v x = by_faulty j x
sides_sound G p a c d e j J (Ok (m, n)) g v (b, (y, i)) = as_judged j i (assuming_sound G p a c d m n e b g (v (under_guard m n G) b y))

pub fn_guard_sound : (G : Sc) (p : Place) (a : Bool) (c d : Cn) (e : Ex) (j : Jd) (J : Sc → Jd → Type 0) → ((H : Sc) (k : Jd) → J H k → Sound H e k) → WholeIn (guard_scope G p c d) (λ H k. (b : Jd) × (J H b × (k ≡ of_assuming c d b))) j → Sound G (node p a (fn_guard c d e)) j
fn_guard_sound G p a c d e j J v x = sides_sound G p a c d e j J (guard_forms G.kinds c d) refl v x

-- fn p => e
body_sound : (G : Sc) (p : Place) (a : Bool) (q : Pt) (t : Cn) (ts : List Cn) (e : Ex) (own : Option Fault) (j : Jd) → HasKind G t types → PatFound G q t ts → (own ≡ None → Covers G.datatypes (q ∷ []) t) → Sound (under ts G) e j → Sound G (node p a (fn q t e)) (of_body t own j)
body_sound G p a q t ts e own j k b c v = λ u h n. by_type j.type refl u h (first_parts j.told own n).0 (first_parts j.told own n).1
  where
    by_type : (o : Option Cn) → j.type ≡ o → (u : Cn) → option_map (arrow t) o ≡ Some u → j.told ≡ None → own ≡ None → FoundBy Covers G (node p a (fn q t e)) u
    by_type None m u h n l = absurd (none_some h)
    by_type (Some w) m u h n l = subst (λ z. FoundBy Covers G (node p a (fn q t e)) z) (some_is h) (fn_has k b (c l) (v w m n))

function_sound : (G : Sc) (p : Place) (a : Bool) (q : Pt) (t : Cn) (ts : List Cn) (e : Ex) (i j : Jd) → HasKind G t types → PatFound G q t ts → Sound (under ts G) e i → OfFunction G p q t i j → Sound G (node p a (fn q t e)) j
function_sound G p a q t ts e i j k b v (o, (c, m)) = as_judged j m (body_sound G p a q t ts e o i k b (λ h. covered G p (q ∷ []) t o c h) v)

bad_parameter : (G : Sc) (p : Place) (a : Bool) (q : Pt) (t : Cn) (e : Ex) (f : Fault) (b : Br) (j : Jd) → b ≡ bad_branch f → OfParameter G p q t b j → Sound G (node p a (fn q t e)) j
bad_parameter G p a q t e f b j h x = by_faulty j (subst (λ (z : Br). OfParameter G p q t z j) h x)

-- what a pattern binds, and what is under it
pub under_pattern : (G : Sc) (q : Pt) (t : Cn) (e : Ex) (l : List Cn) (k : Jd) → Sound (having l G) e k → Binds G G.locals q t l → (ts : List Cn) × PatFound G q t ts × Sound (under ts G) e k
under_pattern G q t e l k v b = (b.bound, b.found, subst (λ (z : List Cn). Sound (having z G) e k) b.is v)

parameter_sound : (G : Sc) (p : Place) (a : Bool) (q : Pt) (t : Cn) (e : Ex) (J : Sc → Jd → Type 0) (d : Bd) (b : Br) (j : Jd) → HasKind G t types → BindsAs G G.locals q t d → ((H : Sc) (k : Jd) → J H k → Sound H e k) → BranchIn (bound_scope G d) J b → OfParameter G p q t b j → Sound G (node p a (fn q t e)) j
parameter_sound G p a q t e J (bad_pattern f) b j h i v x y = bad_parameter G p a q t e f b j x y
parameter_sound G p a q t e J (bind_these l) (bad_branch f) j h i v x y = absurd x
parameter_sound G p a q t e J (bind_these l) (judged_branch k) j h i v x y =
    let (ts, found, w) = under_pattern G q t e l k (v (having l G) k x) i in
    function_sound G p a q t ts e k j h found w y

kinded_sound : (G : Sc) (p : Place) (a : Bool) (q : Pt) (t : Cn) (e : Ex) (J : Sc → Jd → Type 0) (j : Jd) {r : Result Kd Flw} → Kindly G t types r → ((H : Sc) (k : Jd) → J H k → Sound H e k) → UnlessTold (flawed G p r) ((b : Br) × (BranchIn (pattern_scope G q t) J b × OfParameter G p q t b j)) j → Sound G (node p a (fn q t e)) j
kinded_sound G p a q t e J j (unkind w) v x = by_faulty j x
kinded_sound G p a q t e J j (kindly h) v (b, (x, y)) = parameter_sound G p a q t e J (binding G G.locals q t) b j h (pattern_binds G G.locals q t) v x y

pub fn_sound : (G : Sc) (p : Place) (a : Bool) (q : Pt) (t : Cn) (e : Ex) (J : Sc → Jd → Type 0) (j : Jd) → ((H : Sc) (k : Jd) → J H k → Sound H e k) → UnlessTold (flawed G p (judged_at G.kinds t types)) ((b : Br) × (BranchIn (pattern_scope G q t) J b × OfParameter G p q t b j)) j → Sound G (node p a (fn q t e)) j
fn_sound G p a q t e J j v x = kinded_sound G p a q t e J j (kind_is G t types) v x

-- (e : t)
pub ascribed_sound : (G : Sc) (p q : Place) (a : Bool) (e : Ex) (t : Cn) {r : Result Kd Flw} (j : Jd) → Kindly G t types r → Sound G e j → Sound G (node p a (ascribed e t)) (of_ascribed G p q t r j)
ascribed_sound G p q a e t j (unkind k) v = untyped
ascribed_sound G p q a e t j (kindly k) v = by_type j.type refl
  where
    by_parts : (u z : Cn) → j.type ≡ Some u → unless_told t (wants G q t u) ≡ Some z → (j.told ≡ None) × (wants G q t u ≡ None) → FoundBy Covers G (node p a (ascribed e t)) z
    by_parts u z m h (n, l) = subst (λ y. FoundBy Covers G (node p a (ascribed e t)) y) (some_is (sym (ap (unless_told t) l) ∙ h)) (ascribed_has k (v u m n) (alike G q t u l))

    by_type : (o : Option Cn) → j.type ≡ o → Sound G (node p a (ascribed e t)) (record { type = written G q t o; told = first j.told (on_type o (wants G q t)) })
    by_type None m = untyped
    by_type (Some u) m = λ z h n. by_parts u z m h (first_parts j.told (wants G q t u) n)
