-- case e of ..: what is matched, the branches at its type, and what cover tells of their patterns.
use Rattle.std.proofs.Common.{◌≡◌, Bool, true, false, List, ◌∷◌, Option, Some, None, refl, sym, subst}
use Rattle.con_terms.specs.Trees.{Cn}
use Rattle.con_terms.specs.declared.place.Place.{Place}
use Rattle.core_terms.specs.Trees.{Pt, Ex, node, case_of, Brs}
use Rattle.core_typing.specs.Scopes.{Sc}
use Rattle.core_typing.specs.Asks.{no_cover}
use Rattle.core_typing.specs.Faults.{Fault}
use Rattle.core_typing.specs.PatternFaults.{PatFound, PatFault}
use Rattle.core_typing.specs.Typed.{branch_patterns}
use Rattle.core_typing.specs.Found.{Found, case_has, EachFound}
use Rattle.core_typing.specs.Own.{Uncovered, BranchFault, BranchDiffers, PatsFound, a_pat, Own, first_pattern, a_later_pattern, branches_differ, not_covered}
use Rattle.core_typing.specs.Tells.{Sub, what_is_matched, first_branch, later_branch}
use Rattle.core_typing.proofs.OneType.{one_found}
use Rattle.told_faults.specs.Computed.{Jd, first}
use Rattle.told_faults.specs.Told.{TypeIs, Verdict, Picks, Least, Or, or_first, or_second, Either, in_first, in_second, Only, only, Holds}
use Rattle.told_faults.proofs.Verdict.{one}
use Rattle.pattern_rules.specs.Matching.{Br, Cs, first_case, if_true, of_case}
use Rattle.judged_terms.specs.Judge.{Missed, OfMatched}
use Rattle.told_terms.proofs.Wanted.{BranchTold, BranchesTold, CaseTold}
use Rattle.told_terms.proofs.Verdicts.{verdict_as, whole, one_part_alone, type_as, picks_is}
use Rattle.told_terms.proofs.Beside.{picks_from, least_from, Under, picks_under, picks_not_under}
use Rattle.told_terms.proofs.Openings.{opened_is, picks_cover}
use Rattle.told_terms.proofs.Branches.{InBody, in_body, InLater, in_later, LaterFault, pattern_of, type_of, AlikeIs, IsSo, Behind, later_told, FirstHas, one_first, Alone, first_told}

-- what is found of all branches at a type
abbrev AllBehind : Sc → Cn → Pt → Ex → Brs → Cs → Type 0
AllBehind G t r b bs c = Behind (FirstHas G t r b) (λ u. Alone u × EachFound no_cover G t bs u) (((ts : List Cn) × PatFound G r t ts) × PatsFound G t (branch_patterns bs)) (Either (InBody G t r b) (InLater G t bs)) (Or (PatFault G r t) (LaterFault (FirstHas G t r b) G t bs)) c

all_behind : (G : Sc) (t : Cn) (r : Pt) (b : Ex) (bs : Brs) (x : Br) (c : Cs) → BranchTold G t r b x → BranchesTold G t bs (first_case x) c → AllBehind G t r b bs c
all_behind G t r b bs x c h k =
    later_told (FirstHas G t r b) Alone ((ts : List Cn) × PatFound G r t ts) (InBody G t r b) (PatFault G r t) G t bs (first_case x) c (λ u v y z. one_first u v y z)
    (first_told G t r b (opened_is G t r b x h)) k

-- where what is matched has no type
no_type : {G : Sc} {p q : Place} {a : Bool} {e : Ex} {r : Pt} {b : Ex} {bs : Brs} (u : Cn) → ((t : Cn) → Found G e t → ⊥) → Found G (node p a (case_of e q r b bs)) u → ⊥
no_type u n (case_has {t = t} x k y z c) = n t x

no_own : {G : Sc} {p q : Place} {a : Bool} {e : Ex} {r : Pt} {b : Ex} {bs : Brs} {f : Fault} → ((t : Cn) → Found G e t → ⊥) → Own G (node p a (case_of e q r b bs)) f → ⊥
no_own n (first_pattern {t = t} x y) = n t x
no_own n (a_later_pattern {t = t} x y) = n t x
no_own n (branches_differ {t = t} x k y z) = n t x
no_own n (not_covered {t = t} x k y) = n t x

no_branch : {G H : Sc} {p q : Place} {a : Bool} {e c : Ex} {r : Pt} {b : Ex} {bs : Brs} → ((t : Cn) → Found G e t → ⊥) → Sub G (node p a (case_of e q r b bs)) H c → Only G e H c
no_branch n what_is_matched = only
no_branch n (first_branch {t = t} x k) = absurd (n t x)
no_branch n (later_branch {t = t} x i k) = absurd (n t x)

untyped : (G : Sc) (p q : Place) (a : Bool) (e : Ex) (r : Pt) (b : Ex) (bs : Brs) (i : Jd) → Verdict G e i → ((t : Cn) → Found G e t → ⊥) → Verdict G (node p a (case_of e q r b bs)) (record { type = None; told = i.told })
untyped G p q a e r b bs i v n =
    one_part_alone G (node p a (case_of e q r b bs)) G e i None v what_is_matched (λ H c s. no_branch n s) (λ u x. no_type u n x) (λ f x. no_own n x)

-- the parts
all_parts : {G H : Sc} {p q : Place} {a : Bool} {e c : Ex} {r : Pt} {b : Ex} {bs : Brs} {t : Cn} → Found G e t → Either (InBody G t r b) (InLater G t bs) H c → Sub G (node p a (case_of e q r b bs)) H c
all_parts h (in_first (in_body k)) = first_branch h k
all_parts h (in_second (in_later i k)) = later_branch h i k

each_part : {G H : Sc} {p q : Place} {a : Bool} {e c : Ex} {r : Pt} {b : Ex} {bs : Brs} {t : Cn} → Found G e t → Sub G (node p a (case_of e q r b bs)) H c → Either (Only G e) (Either (InBody G t r b) (InLater G t bs)) H c
each_part h what_is_matched = in_first only
each_part {G} {r = r} h (first_branch {ts = ts} x k) = in_second (in_first (in_body (subst (λ z. PatFound G r z ts) (one_found x h) k)))
each_part {G} h (later_branch {s = s} {ts = ts} x i k) = in_second (in_second (in_later i (subst (λ z. PatFound G s z ts) (one_found x h) k)))

only_matched : {G H : Sc} {p q : Place} {a : Bool} {e c : Ex} {r : Pt} {b : Ex} {bs : Brs} → Only G e H c → Sub G (node p a (case_of e q r b bs)) H c
only_matched only = what_is_matched

parts_told : (G : Sc) (p q : Place) (a : Bool) (e : Ex) (r : Pt) (b : Ex) (bs : Brs) (t : Cn) (i : Jd) (c : Cs) → Found G e t → Verdict G e i → AllBehind G t r b bs c → Least (Sub G (node p a (case_of e q r b bs))) (first i.told c.kids)
parts_told G p q a e r b bs t i c h v d =
    least_from (Only G e) (Either (InBody G t r b) (InLater G t bs)) (Sub G (node p a (case_of e q r b bs))) i.told c.kids
    (λ H x s. only_matched s) (λ H x s. all_parts h s) (λ H x s. each_part h s) (one G e i.told v.told) d.kids

-- its own faults
abbrev CoverFault : Sc → Place → Pt → Brs → Cn → Fault → Type 0
CoverFault G p r bs t = Under (PatsFound G t (r ∷ branch_patterns bs)) (Uncovered G p (r ∷ branch_patterns bs) t)

cover_told : (G : Sc) (p : Place) (r : Pt) (bs : Brs) (t : Cn) (o : Option Fault) (d : Bool) → IsSo (((ts : List Cn) × PatFound G r t ts) × PatsFound G t (branch_patterns bs)) d → Missed G p d (r ∷ branch_patterns bs) t o → Picks (CoverFault G p r bs t) o
cover_told G p r bs t o true ((ts, k), ks) m = picks_under (PatsFound G t (r ∷ branch_patterns bs)) (Uncovered G p (r ∷ branch_patterns bs) t) o (a_pat k ks) (picks_cover G p (r ∷ branch_patterns bs) t o m)
cover_told G p r bs t o false n m = picks_is (CoverFault G p r bs t) None o (sym m) (picks_not_under (PatsFound G t (r ∷ branch_patterns bs)) (Uncovered G p (r ∷ branch_patterns bs) t) parts)
  where
    parts : PatsFound G t (r ∷ branch_patterns bs) → ⊥
    parts (a_pat {ts = ts} k ks) = n ((ts, k), ks)

of_branches : {G : Sc} {p q : Place} {a : Bool} {e : Ex} {r : Pt} {b : Ex} {bs : Brs} {t : Cn} {f : Fault} → Found G e t → Or (PatFault G r t) (LaterFault (FirstHas G t r b) G t bs) f → Own G (node p a (case_of e q r b bs)) f
of_branches h (or_first x) = first_pattern h x
of_branches h (or_second (pattern_of x)) = a_later_pattern h x
of_branches h (or_second (type_of u x)) = branches_differ h u.found u.has x

of_cover : {G : Sc} {p q : Place} {a : Bool} {e : Ex} {r : Pt} {b : Ex} {bs : Brs} {t : Cn} {f : Fault} → Found G e t → CoverFault G p r bs t f → Own G (node p a (case_of e q r b bs)) f
of_cover h (k, x) = not_covered h k x

each_own : {G : Sc} {p q : Place} {a : Bool} {e : Ex} {r : Pt} {b : Ex} {bs : Brs} {t : Cn} {f : Fault} → Found G e t → Own G (node p a (case_of e q r b bs)) f → Or (Or (PatFault G r t) (LaterFault (FirstHas G t r b) G t bs)) (CoverFault G p r bs t) f
each_own {G} {r = r} {f = f} h (first_pattern x y) = or_first (or_first (subst (λ z. PatFault G r z f) (one_found x h) y))
each_own {G} {bs = bs} {f = f} h (a_later_pattern x y) = or_first (or_second (pattern_of (subst (λ z. BranchFault G z bs f) (one_found x h) y)))
each_own {G} {r = r} {bs = bs} {f = f} h (branches_differ {u = u} {ts = ts} x k y z) =
    or_first (or_second (type_of (record { bound = ts; found = subst (λ w. PatFound G r w ts) (one_found x h) k; has = y }) (subst (λ w. BranchDiffers G w u bs f) (one_found x h) z)))
each_own {G} {p = p} {r = r} {bs = bs} {f = f} h (not_covered x k y) =
    or_second (subst (λ z. PatsFound G z (r ∷ branch_patterns bs)) (one_found x h) k, subst (λ z. Uncovered G p (r ∷ branch_patterns bs) z f) (one_found x h) y)

own_told : (G : Sc) (p q : Place) (a : Bool) (e : Ex) (r : Pt) (b : Ex) (bs : Brs) (t : Cn) (c : Cs) (o : Option Fault) → Found G e t → AllBehind G t r b bs c → Missed G p c.bound (r ∷ branch_patterns bs) t o → Picks (Own G (node p a (case_of e q r b bs))) (first c.own o)
own_told G p q a e r b bs t c o h d m =
    picks_from (Or (PatFault G r t) (LaterFault (FirstHas G t r b) G t bs)) (CoverFault G p r bs t) (Own G (node p a (case_of e q r b bs))) c.own o
    (λ f x. of_branches h x) (λ f x. of_cover h x) (λ f x. each_own h x) d.own (cover_told G p r bs t o c.bound d.bound m)

-- its type
pub record Whole (G : Sc) (t : Cn) (r : Pt) (b : Ex) (bs : Brs) (u : Cn) : Type 0 where
  pub head : FirstHas G t r b u
  pub each : EachFound no_cover G t bs u

whole_of : {G : Sc} {p q : Place} {a : Bool} {e : Ex} {r : Pt} {b : Ex} {bs : Brs} {t u : Cn} → Found G e t → Found G (node p a (case_of e q r b bs)) u → Whole G t r b bs u
whole_of {G} {r = r} {bs = bs} {u = u} h (case_has {ts = ts} x k y z c) =
    record { head = record { bound = ts; found = subst (λ w. PatFound G r w ts) (one_found x h) k; has = y }; each = subst (λ w. EachFound no_cover G w bs u) (one_found x h) z }

type_by : (G : Sc) (p q : Place) (a : Bool) (e : Ex) (r : Pt) (b : Ex) (bs : Brs) (t : Cn) (d : Bool) (o : Option Cn) → Found G e t → Holds (FirstHas G t r b) o → AlikeIs (λ u. Alone u × EachFound no_cover G t bs u) d o → TypeIs G (node p a (case_of e q r b bs)) (if_true d o)
type_by G p q a e r b bs t true (Some u) h k m = case_has h k.found k.has m.1 tt
type_by G p q a e r b bs t false (Some u) h k m = none
  where
    same : (v : Cn) → Whole G t r b bs v → EachFound no_cover G t bs u
    same v w = subst (λ z. EachFound no_cover G t bs z) (one_first v u w.head k) w.each

    none : (v : Cn) → Found G (node p a (case_of e q r b bs)) v → ⊥
    none v x = m (tt, same v (whole_of h x))
type_by G p q a e r b bs t true None h k m = λ v x. k v (whole_of h x).head
type_by G p q a e r b bs t false None h k m = λ v x. k v (whole_of h x).head

at_type : (G : Sc) (p q : Place) (a : Bool) (e : Ex) (r : Pt) (b : Ex) (bs : Brs) (t : Cn) (i : Jd) (c : Cs) (o : Option Fault) → Found G e t → Verdict G e i → AllBehind G t r b bs c → Missed G p c.bound (r ∷ branch_patterns bs) t o → Verdict G (node p a (case_of e q r b bs)) (of_case i.told c o)
at_type G p q a e r b bs t i c o h v d m =
    whole G (node p a (case_of e q r b bs)) (if_true c.alike c.type) (first i.told c.kids) (first c.own o)
    (type_by G p q a e r b bs t c.alike c.type h d.type d.alike) (parts_told G p q a e r b bs t i c h v d) (own_told G p q a e r b bs t c o h d m)

by_type : (G : Sc) (p q : Place) (a : Bool) (e : Ex) (r : Pt) (b : Ex) (bs : Brs) (i j : Jd) (o : Option Cn) → Verdict G e i → i.type ≡ o → OfMatched i (CaseTold G p i r b bs j) o j → Verdict G (node p a (case_of e q r b bs)) j
by_type G p q a e r b bs i j None v h x = verdict_as G (node p a (case_of e q r b bs)) j (record { type = None; told = i.told }) x (untyped G p q a e r b bs i v (type_as G e i.type None h v.type))
by_type G p q a e r b bs i j (Some t) v h (c, o, ((x, (y, z)), m, n)) =
    verdict_as G (node p a (case_of e q r b bs)) j (of_case i.told c o) n
    (at_type G p q a e r b bs t i c o (type_as G e i.type (Some t) h v.type) v (all_behind G t r b bs x c y z) m)

pub case_told : (G : Sc) (p q : Place) (a : Bool) (e : Ex) (r : Pt) (b : Ex) (bs : Brs) (i j : Jd)
    → Verdict G e i
    → OfMatched i (CaseTold G p i r b bs j) i.type j
    → Verdict G (node p a (case_of e q r b bs)) j
case_told G p q a e r b bs i j v x = by_type G p q a e r b bs i j i.type v refl x
