-- fn p => e: the kind of the type, the pattern, its cover, and the body under it.
use Rattle.std.proofs.Common.{◌≡◌, Bool, List, [], ◌∷◌, Option, Some, option_map, Result, Err, subst}
use Rattle.con_terms.specs.Trees.{Kd, types, Cn, arrow}
use Rattle.con_terms.specs.declared.place.Place.{Place}
use Rattle.kind_rules.specs.Flaws.{Flw}
use Rattle.kind_rules.specs.Kinding.{judged_at}
use Rattle.core_terms.specs.Trees.{Pt, Ex, node, fn}
use Rattle.core_typing.specs.Scopes.{Sc, under}
use Rattle.core_typing.specs.Faults.{Fault}
use Rattle.core_typing.specs.Judged.{HasKind, LacksKind, flaw_at}
use Rattle.core_typing.specs.PatternFaults.{PatFound, PatFault}
use Rattle.core_typing.specs.Found.{Found, fn_has}
use Rattle.core_typing.specs.Own.{Uncovered, Own, parameter_kind, parameter_pattern, parameter_cover}
use Rattle.core_typing.specs.Tells.{Sub, fn_body}
use Rattle.core_typing.proofs.OneType.{one_pattern}
use Rattle.core_typing.proofs.Excluded.{kind_out}
use Rattle.told_faults.specs.Computed.{Jd, faulty, flawed}
use Rattle.told_faults.specs.Told.{Verdict, Picks, Only}
use Rattle.told_faults.specs.Heads.{Kindly, kindly, unkind}
use Rattle.told_faults.proofs.Parts.{kind_is, picks_flaw}
use Rattle.told_faults.proofs.Verdict.{picks_as}
use Rattle.node_rules.specs.Functions.{of_body}
use Rattle.pattern_rules.specs.Matching.{Br}
use Rattle.judged_terms.specs.Openings.{UnlessTold}
use Rattle.judged_terms.specs.Judge.{OfFunction, OfParameter}
use Rattle.told_terms.proofs.Wanted.{BranchTold}
use Rattle.told_terms.proofs.Verdicts.{verdict_as, one_part, only_faulty, type_mapped}
use Rattle.told_terms.proofs.PatternsOut.{pattern_out}
use Rattle.told_terms.proofs.Patterns.{no_kind}
use Rattle.told_terms.proofs.Openings.{Opened, not_opened, opened, opened_is, one_scope, picks_cover}

-- where the type has no kind
kind_type : {G : Sc} {p : Place} {a : Bool} {q : Pt} {t : Cn} {e : Ex} {w : Flw} (u : Cn) → judged_at G.kinds t types ≡ Err w → Found G (node p a (fn q t e)) u → ⊥
kind_type {p = p} u h (fn_has k b c x) = no_kind p k h

kind_part : {G H : Sc} {p : Place} {a : Bool} {q : Pt} {t : Cn} {e c : Ex} {w : Flw} → judged_at G.kinds t types ≡ Err w → Sub G (node p a (fn q t e)) H c → ⊥
kind_part {p = p} h (fn_body k b) = no_kind p k h

kind_own : {G : Sc} {p : Place} {a : Bool} {q : Pt} {t : Cn} {e : Ex} {w : Flw} {f : Fault} → judged_at G.kinds t types ≡ Err w → Own G (node p a (fn q t e)) f → LacksKind G p t types f
kind_own h (parameter_kind l) = l
kind_own {p = p} h (parameter_pattern k x) = absurd (no_kind p k h)
kind_own {p = p} h (parameter_cover k b x) = absurd (no_kind p k h)

kind_told : (G : Sc) (p : Place) (a : Bool) (q : Pt) (t : Cn) (e : Ex) (w : Flw) → judged_at G.kinds t types ≡ Err w → Verdict G (node p a (fn q t e)) (faulty (flaw_at p G.called w))
kind_told G p a q t e w h =
    only_faulty G (node p a (fn q t e)) (flaw_at p G.called w) (λ u x. kind_type u h x) (λ H c s. kind_part h s)
    (picks_as (LacksKind G p t types) (Own G (node p a (fn q t e))) (Some (flaw_at p G.called w)) (λ f l. parameter_kind l) (λ f x. kind_own h x) (picks_flaw G p t types (Err w) (unkind h)))

-- where the pattern is at fault
pattern_type : {G : Sc} {p : Place} {a : Bool} {q : Pt} {t : Cn} {e : Ex} {g : Fault} (u : Cn) → PatFault G q t g → Found G (node p a (fn q t e)) u → ⊥
pattern_type u h (fn_has k b c x) = pattern_out h b

pattern_part : {G H : Sc} {p : Place} {a : Bool} {q : Pt} {t : Cn} {e c : Ex} {g : Fault} → PatFault G q t g → Sub G (node p a (fn q t e)) H c → ⊥
pattern_part h (fn_body k b) = pattern_out h b

pattern_own : {G : Sc} {p : Place} {a : Bool} {q : Pt} {t : Cn} {e : Ex} {f g : Fault} → HasKind G t types → PatFault G q t g → Own G (node p a (fn q t e)) f → PatFault G q t f
pattern_own k h (parameter_kind l) = absurd (kind_out k l)
pattern_own k h (parameter_pattern g x) = x
pattern_own k h (parameter_cover g b x) = absurd (pattern_out h b)

pattern_told : (G : Sc) (p : Place) (a : Bool) (q : Pt) (t : Cn) (e : Ex) (f : Fault) → HasKind G t types → Picks (PatFault G q t) (Some f) → Verdict G (node p a (fn q t e)) (faulty f)
pattern_told G p a q t e f k h =
    only_faulty G (node p a (fn q t e)) f (λ u x. pattern_type u h.0 x) (λ H c s. pattern_part h.0 s)
    (picks_as (PatFault G q t) (Own G (node p a (fn q t e))) (Some f) (λ g x. parameter_pattern k x) (λ g x. pattern_own k h.0 x) h)

-- where the body is judged
body_part : {G H : Sc} {p : Place} {a : Bool} {q : Pt} {t : Cn} {e c : Ex} {ts : List Cn} → PatFound G q t ts → Sub G (node p a (fn q t e)) H c → Only (under ts G) e H c
body_part h (fn_body k b) = one_scope h b

body_type : {G : Sc} {p : Place} {a : Bool} {q : Pt} {t : Cn} {e : Ex} {ts : List Cn} {v : Cn} → PatFound G q t ts → Found G (node p a (fn q t e)) v → (u : Cn) × Found (under ts G) e u
body_type {G} {e = e} h (fn_has {u = u} k b c x) = (u, subst (λ (z : List Cn). Found (under z G) e u) (one_pattern b h) x)

body_own : {G : Sc} {p : Place} {a : Bool} {q : Pt} {t : Cn} {e : Ex} {ts : List Cn} {f : Fault} → HasKind G t types → PatFound G q t ts → Own G (node p a (fn q t e)) f → Uncovered G p (q ∷ []) t f
body_own k h (parameter_kind l) = absurd (kind_out k l)
body_own k h (parameter_pattern g x) = absurd (pattern_out x h)
body_own k h (parameter_cover g b x) = x

body_told : (G : Sc) (p : Place) (a : Bool) (q : Pt) (t : Cn) (e : Ex) (ts : List Cn) (i : Jd) (o : Option Fault) → HasKind G t types → PatFound G q t ts → Verdict (under ts G) e i → Picks (Uncovered G p (q ∷ []) t) o → Verdict G (node p a (fn q t e)) (of_body t o i)
body_told G p a q t e ts i o k h v c =
    one_part G (node p a (fn q t e)) (under ts G) e i (option_map (arrow t) i.type) o v (fn_body k h) (λ H d s. body_part h s)
    (type_mapped G (node p a (fn q t e)) (under ts G) e (arrow t) i.type (λ u x. body_type h x) (λ u x. fn_has k h tt x) v.type)
    (picks_as (Uncovered G p (q ∷ []) t) (Own G (node p a (fn q t e))) o (λ f x. parameter_cover k h x) (λ f x. body_own k h x) c)

function_told : (G : Sc) (p : Place) (a : Bool) (q : Pt) (t : Cn) (e : Ex) (ts : List Cn) (i j : Jd) → HasKind G t types → PatFound G q t ts → Verdict (under ts G) e i → OfFunction G p q t i j → Verdict G (node p a (fn q t e)) j
function_told G p a q t e ts i j k h v (o, (c, m)) =
    verdict_as G (node p a (fn q t e)) j (of_body t o i) m (body_told G p a q t e ts i o k h v (picks_cover G p (q ∷ []) t o c))

parameter_told : (G : Sc) (p : Place) (a : Bool) (q : Pt) (t : Cn) (e : Ex) (j : Jd) {b : Br} → HasKind G t types → Opened G t q e b → OfParameter G p q t b j → Verdict G (node p a (fn q t e)) j
parameter_told G p a q t e j k (not_opened {f = f} h) x = verdict_as G (node p a (fn q t e)) j (faulty f) x (pattern_told G p a q t e f k h)
parameter_told G p a q t e j k (opened {k = i} ts h v) x = function_told G p a q t e ts i j k h v x

kinded_told : (G : Sc) (p : Place) (a : Bool) (q : Pt) (t : Cn) (e : Ex) (j : Jd) {r : Result Kd Flw} → Kindly G t types r → UnlessTold (flawed G p r) ((b : Br) × (BranchTold G t q e b × OfParameter G p q t b j)) j → Verdict G (node p a (fn q t e)) j
kinded_told G p a q t e j (unkind {w = w} h) x = verdict_as G (node p a (fn q t e)) j (faulty (flaw_at p G.called w)) x (kind_told G p a q t e w h)
kinded_told G p a q t e j (kindly k) (b, (x, y)) = parameter_told G p a q t e j k (opened_is G t q e b x) y

pub fn_told : (G : Sc) (p : Place) (a : Bool) (q : Pt) (t : Cn) (e : Ex) (j : Jd)
    → UnlessTold (flawed G p (judged_at G.kinds t types)) ((b : Br) × (BranchTold G t q e b × OfParameter G p q t b j)) j
    → Verdict G (node p a (fn q t e)) j
fn_told G p a q t e j x = kinded_told G p a q t e j (kind_is G t types) x
