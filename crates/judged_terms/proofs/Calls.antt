-- Calls, item by item.
use Rattle.std.proofs.Common.{◌≡◌, Bool, Option, Some, None, Result, refl, ap, sym, ◌∙◌, subst}
use Rattle.con_terms.specs.Trees.{Kd, Cn, arrow, poly, guarded}
use Rattle.con_terms.specs.Substitution.{subst as put}
use Rattle.con_terms.specs.declared.place.Place.{Place}
use Rattle.kind_rules.specs.Flaws.{Flw}
use Rattle.core_terms.specs.declared.exp.Sigil.{Sigil}
use Rattle.core_terms.specs.declared.exp.ConOrigin.{ConOrigin}
use Rattle.core_terms.specs.Trees.{Ex, node, call, Its, with_term, with_con, with_guard}
use Rattle.core_typing.specs.Scopes.{Sc, normal_of}
use Rattle.core_typing.specs.Cover.{Covers}
use Rattle.core_typing.specs.Compared.{Alike, Disjoint}
use Rattle.core_typing.specs.Faults.{Fault}
use Rattle.core_typing.specs.Judged.{HasKind}
use Rattle.core_typing.specs.Found.{FoundBy, call_has, Leads}
use Rattle.core_typing.specs.Found as found
use Rattle.told_faults.specs.Computed.{Jd, wants}
use Rattle.told_faults.specs.Heads.{Function, function, no_function, Poly, a_poly, no_poly, Guarded, a_guarded, no_guarded, Kindly, kindly, unkind}
use Rattle.told_faults.proofs.Heads.{function_view, poly_view, guarded_view}
use Rattle.told_faults.proofs.Parts.{kind_is}
use Rattle.judgements.specs.Comparisons.{meets}
use Rattle.node_rules.specs.Calls.{Ft, fits, stuck, Pa, fit_of, starts, fits_unless, past_argument, past_function, past_head, past_term, past_kind, past_body, past_poly, past_con, past_sides, past_assumed, past_guard, with_term_item, with_con_item, with_guard_item, of_fit, of_call}
use Rattle.judged_terms.specs.Laws.{Sound}
use Rattle.judged_terms.proofs.Basics.{some_is, none_some, first_parts, alike, apart}

-- behind some items there is a type, and nothing is told
pub record Ends (r : Pa) (t : Cn) : Type 0 where
  pub fit : r.fit ≡ fits t
  pub kids : r.kids ≡ None

pub stuck_not : {o : Option Fault} {t : Cn} → stuck o ≡ fits t → ⊥
stuck_not h = cc

pub fits_is : {t u : Cn} → fits t ≡ fits u → t ≡ u
fits_is h = cc

-- behind the last
fit_ends : (f : Ft) (k : Option Fault) {t : Cn} → (of_fit f k).type ≡ Some t → (of_fit f k).told ≡ None → (f ≡ fits t) × (k ≡ None)
fit_ends (fits u) k h n = (ap fits (some_is h), n)
fit_ends (stuck o) k h n = absurd (none_some h)

pub call_ends : (r : Pa) {t : Cn} → (of_call r).type ≡ Some t → (of_call r).told ≡ None → Ends r t
call_ends r h n = let (f, k) = fit_ends r.fit r.kids h n in record { fit = f; kids = k }

-- before the first
pub start_type : (o : Option Cn) {t : Cn} → fit_of o ≡ fits t → o ≡ Some t
start_type None h = absurd (stuck_not h)
start_type (Some u) h = ap (λ z. Some z) (fits_is h)

-- without a fault
unless_fits : (d : Cn) (o : Option Fault) {t : Cn} → fits_unless d o ≡ fits t → (d ≡ t) × (o ≡ None)
unless_fits d None h = (fits_is h, refl)
unless_fits d (Some f) h = absurd (stuck_not h)

-- f e
pub record PastTerm (G : Sc) (f : Ft) (o : Option Cn) (d : Cn) : Type 0 where
  pub before : Cn
  pub wanted : Cn
  pub given : Cn
  pub fit : f ≡ fits before
  pub normal : normal_of before ≡ Some (arrow wanted d)
  pub type : o ≡ Some given
  pub same : Alike wanted given

past_term_is : (G : Sc) (p q : Place) (o : Option Cn) (f : Ft) {d : Cn} → past_term G p q o f ≡ fits d → PastTerm G f o d
past_term_is G p q o (stuck k) h = absurd (stuck_not h)
past_term_is G p q o (fits t) {d = d} h = by_head (normal_of t) refl h
  where
    by_argument : (u b : Cn) (c : Option Cn) → o ≡ c → normal_of t ≡ Some (arrow u b) → past_argument G q u b c ≡ fits d → PastTerm G (fits t) o d
    by_argument u b None i n k = absurd (stuck_not k)
    by_argument u b (Some c) i n k =
        let (e, m) = unless_fits b (wants G q u c) k in
        record { before = t; wanted = u; given = c; fit = refl; normal = n ∙ ap (λ z. Some (arrow u z)) e; type = i; same = alike G q u c m }

    by_function : {n : Cn} {s : Option (Cn × Cn)} → normal_of t ≡ Some n → Function n s → past_function G p q n s o ≡ fits d → PastTerm G (fits t) o d
    by_function i (function u b) k = by_argument u b o refl i k
    by_function i (no_function x) k = absurd (stuck_not k)

    by_head : (m : Option Cn) → normal_of t ≡ m → past_head G p q m o ≡ fits d → PastTerm G (fits t) o d
    by_head None i k = absurd (stuck_not k)
    by_head (Some n) i k = by_function i (function_view n) k

pub record Before (G : Sc) (r : Pa) (is : Its) (t : Cn) : Type 0 where
  pub type : Cn
  pub ends : Ends r type
  pub leads : Leads Covers G type is t

pub term_step : (G : Sc) (p q : Place) (e : Ex) (is : Its) (j : Jd) (r : Pa) {d t : Cn} → Sound G e j → Ends (with_term_item G p q j r) d → Leads Covers G d is t → Before G r (with_term e is) t
term_step G p q e is j r v ends l =
    let x = past_term_is G p q j.type r.fit ends.fit in
    let (m, n) = first_parts r.kids j.told ends.kids in
    record { type = x.before; ends = record { fit = x.fit; kids = m }; leads = found.past_term x.normal (v x.given x.type n) x.same l }

-- f [c]
pub record PastCon (G : Sc) (f : Ft) (c d : Cn) : Type 0 where
  pub before : Cn
  pub implicit : Bool
  pub kind : Kd
  pub body : Cn
  pub fit : f ≡ fits before
  pub normal : normal_of before ≡ Some (poly implicit kind body)
  pub has : HasKind G c kind
  pub behind : put body c ≡ d

past_con_is : (G : Sc) (p q : Place) (o : ConOrigin) (c : Cn) (f : Ft) {d : Cn} → past_con G p q o c f ≡ fits d → PastCon G f c d
past_con_is G p q o c (stuck k) h = absurd (stuck_not h)
past_con_is G p q o c (fits t) {d = d} h = by_head (normal_of t) refl h
  where
    by_kind : (i : Bool) (k : Kd) (b : Cn) {r : Result Kd Flw} → normal_of t ≡ Some (poly i k b) → Kindly G c k r → past_kind G q b c r ≡ fits d → PastCon G (fits t) c d
    by_kind i k b n (kindly x) e = record { before = t; implicit = i; kind = k; body = b; fit = refl; normal = n; has = x; behind = fits_is e }
    by_kind i k b n (unkind x) e = absurd (stuck_not e)

    by_poly : {n : Cn} {s : Option (Kd × Cn)} → normal_of t ≡ Some n → Poly n s → past_body G p q o c n s ≡ fits d → PastCon G (fits t) c d
    by_poly i (a_poly x k b) e = by_kind x k b i (kind_is G c k) e
    by_poly i (no_poly x) e = absurd (stuck_not e)

    by_head : (m : Option Cn) → normal_of t ≡ m → past_poly G p q o c m ≡ fits d → PastCon G (fits t) c d
    by_head None i e = absurd (stuck_not e)
    by_head (Some n) i e = by_poly i (poly_view n) e

pub con_step : (G : Sc) (p q : Place) (o : ConOrigin) (c : Cn) (is : Its) (r : Pa) {d t : Cn} → Ends (with_con_item G p q o c r) d → Leads Covers G d is t → Before G r (with_con q o c is) t
con_step G p q o c is r {t = t} ends l =
    let x = past_con_is G p q o c r.fit ends.fit in
    record { type = x.before; ends = record { fit = x.fit; kids = ends.kids }; leads = found.past_con x.normal x.has (subst (λ z. Leads Covers G z is t) (sym x.behind) l) }

-- f !
pub record PastGuard (G : Sc) (f : Ft) (d : Cn) : Type 0 where
  pub before : Cn
  pub left : Cn
  pub right : Cn
  pub fit : f ≡ fits before
  pub normal : normal_of before ≡ Some (guarded left right d)
  pub separate : Disjoint G.kinds.guards left right

past_guard_is : (G : Sc) (p q : Place) (f : Ft) {d : Cn} → past_guard G p q f ≡ fits d → PastGuard G f d
past_guard_is G p q (stuck k) h = absurd (stuck_not h)
past_guard_is G p q (fits t) {d = d} h = by_head (normal_of t) refl h
  where
    by_sides : {n : Cn} {s : Option (Cn × Cn × Cn)} → normal_of t ≡ Some n → Guarded n s → past_sides G p q n s ≡ fits d → PastGuard G (fits t) d
    by_sides i (a_guarded a b c) e =
        let (k, m) = unless_fits c (meets G q a b) e in
        record { before = t; left = a; right = b; fit = refl; normal = i ∙ ap (λ z. Some (guarded a b z)) k; separate = apart G q a b m }
    by_sides i (no_guarded x) e = absurd (stuck_not e)

    by_head : (m : Option Cn) → normal_of t ≡ m → past_assumed G p q m ≡ fits d → PastGuard G (fits t) d
    by_head None i e = absurd (stuck_not e)
    by_head (Some n) i e = by_sides i (guarded_view n) e

pub guard_step : (G : Sc) (p q : Place) (a : Bool) (is : Its) (r : Pa) {d t : Cn} → Ends (with_guard_item G p q r) d → Leads Covers G d is t → Before G r (with_guard q a is) t
guard_step G p q a is r ends l =
    let x = past_guard_is G p q r.fit ends.fit in
    record { type = x.before; ends = record { fit = x.fit; kids = ends.kids }; leads = found.past_guard x.normal x.separate l }

-- f e [c] !
pub call_found : (G : Sc) (p : Place) (a : Bool) (f : Ex) (s : Sigil) (is : Its) (j : Jd) {t : Cn} → Sound G f j → Before G (starts j) is t → FoundBy Covers G (node p a (call f s is)) t
call_found G p a f s is j v b = call_has (v b.type (start_type j.type b.ends.fit) b.ends.kids) b.leads
