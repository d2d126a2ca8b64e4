-- The branches of a case, one behind another: what the state says of the branches so far.
use Rattle.std.proofs.Common.{◌≡◌, Bool, true, false, List, [], ◌∷◌, Option, Some, None, sym, subst}
use Rattle.con_terms.specs.Trees.{Cn}
use Rattle.con_terms.specs.declared.place.Place.{Place}
use Rattle.core_terms.specs.Trees.{Pt, Ex, Brs, no_branches, branch}
use Rattle.core_typing.specs.Scopes.{Sc, under}
use Rattle.core_typing.specs.Asks.{no_cover}
use Rattle.core_typing.specs.Compared.{Alike}
use Rattle.core_typing.specs.Faults.{Fault}
use Rattle.core_typing.specs.PatternFaults.{PatFound, PatFault}
use Rattle.core_typing.specs.Typed.{branch_patterns}
use Rattle.core_typing.specs.Found.{Found, EachFound, no_branch_found, branch_found}
use Rattle.core_typing.specs.Own.{place_of, Wants, BranchFault, branch_pattern, later_pattern, BranchDiffers, this_differs, later_differs, PatsFound, no_pats, a_pat}
use Rattle.core_typing.specs.Tells.{InBranches, this_branch, past_branch}
use Rattle.core_typing.proofs.OneType.{one_pattern, one_found}
use Rattle.core_typing.proofs.Excluded.{wants_out}
use Rattle.told_faults.specs.Computed.{Jd, wants}
use Rattle.told_faults.specs.Told.{TypeIs, Verdict, Picks, Nodes, Least, Or, or_first, or_second, Either, in_first, in_second, Only, Holds}
use Rattle.told_faults.specs.Heads.{Wanted, agree, disagree}
use Rattle.told_faults.proofs.Parts.{wanted, picks_wants}
use Rattle.told_faults.proofs.Verdict.{picks_as, picks_two, least_two}
use Rattle.pattern_rules.specs.Matching.{Br, bad_branch, judged_branch, Cs, first_case, differs, stays_alike, with_case}
use Rattle.told_terms.proofs.Wanted.{BranchesTold}
use Rattle.told_terms.proofs.Verdicts.{least_part, least_empty}
use Rattle.told_terms.proofs.Beside.{picks_only_first, least_only_first, least_rest, picks_rest}
use Rattle.told_terms.proofs.PatternsOut.{pattern_out}
use Rattle.told_terms.proofs.Openings.{Opened, not_opened, opened, opened_is, one_scope}

-- the body of a branch, under what its pattern binds, and those of later branches
pub data InBody (G : Sc) (t : Cn) (q : Pt) (e : Ex) : Sc → Ex → Type 0 where
  in_body : {ts : List Cn}
      → PatFound G q t ts
      → InBody G t q e (under ts G) e

pub data InLater (G : Sc) (t : Cn) (bs : Brs) : Sc → Ex → Type 0 where
  in_later : {q : Pt} {e : Ex} {ts : List Cn}
      → InBranches bs q e
      → PatFound G q t ts
      → InLater G t bs (under ts G) e

-- what is at fault in a later branch: its pattern, or its type against that of the first, of which U holds
pub data ThisFault (U : Cn → Type 0) (G : Sc) (t : Cn) (q : Pt) (e : Ex) : Fault → Type 0 where
  this_pattern : {f : Fault}
      → PatFault G q t f
      → ThisFault U G t q e f
  this_type : {u v : Cn} {ts : List Cn} {f : Fault}
      → U u
      → PatFound G q t ts
      → Found (under ts G) e v
      → Wants G (place_of e) u v f
      → ThisFault U G t q e f

pub data LaterFault (U : Cn → Type 0) (G : Sc) (t : Cn) (bs : Brs) : Fault → Type 0 where
  pattern_of : {f : Fault}
      → BranchFault G t bs f
      → LaterFault U G t bs f
  type_of : {u : Cn} {f : Fault}
      → U u
      → BranchDiffers G t u bs f
      → LaterFault U G t bs f

-- a later branch has the type of the first
pub record HasType (G : Sc) (t : Cn) (q : Pt) (e : Ex) (u : Cn) : Type 0 where
  pub bound : List Cn
  pub given : Cn
  pub found : PatFound G q t bound
  pub has : Found (under bound G) e given
  pub same : Alike u given

-- whether all branches so far have the type of the first, where that is there
abbrev pub AlikeIs : (Cn → Type 0) → Bool → Option Cn → Type 0
AlikeIs A b None = Unit {0}
AlikeIs A true (Some u) = A u
AlikeIs A false (Some u) = A u → ⊥

abbrev pub IsSo : Type 0 → Bool → Type 0
IsSo B true = B
IsSo B false = B → ⊥

-- the type of the first branch is the one of which U holds; A holds of the types that all branches have; B is that all
-- patterns are found; K has the bodies, and P what is at fault in the branches
pub record Behind (U A : Cn → Type 0) (B : Type 0) (K : Nodes) (P : Fault → Type 0) (c : Cs) : Type 0 where
  pub type : Holds U c.type
  pub alike : AlikeIs A c.alike c.type
  pub bound : IsSo B c.bound
  pub kids : Least K c.kids
  pub own : Picks P c.own

never_alike : (A : Cn → Type 0) (o : Option Cn) → ((u : Cn) → A u → ⊥) → AlikeIs A false o
never_alike A None h = tt
never_alike A (Some u) h = h u

alike_as : (A D : Cn → Type 0) (b : Bool) (o : Option Cn) → ((u : Cn) → A u → D u) → ((u : Cn) → D u → A u) → AlikeIs A b o → AlikeIs D b o
alike_as A D b None there back h = tt
alike_as A D true (Some u) there back h = there u h
alike_as A D false (Some u) there back h = λ x. h (back u x)

so_as : (B D : Type 0) (b : Bool) → (B → D) → (D → B) → IsSo B b → IsSo D b
so_as B D true there back h = there h
so_as B D false there back h = λ x. h (back x)

so_too : (B D : Type 0) (b : Bool) → D → IsSo B b → IsSo (B × D) b
so_too B D true d h = (h, d)
so_too B D false d h = λ x. h x.0

-- one more branch, whose pattern is at fault
fault_alone : (U : Cn → Type 0) (G : Sc) (t : Cn) (q : Pt) (e : Ex) (f : Fault) → Picks (PatFault G q t) (Some f) → Picks (ThisFault U G t q e) (Some f)
fault_alone U G t q e f h = picks_as (PatFault G q t) (ThisFault U G t q e) (Some f) (λ g x. this_pattern x) back h
  where
    back : (g : Fault) → ThisFault U G t q e g → PatFault G q t g
    back g (this_pattern x) = x
    back g (this_type u k y w) = absurd (pattern_out h.0 k)

no_body : {G H : Sc} {t : Cn} {q : Pt} {e c : Ex} {f : Fault} → PatFault G q t f → InBody G t q e H c → ⊥
no_body x (in_body k) = pattern_out x k

bad_step : (U A : Cn → Type 0) (B : Type 0) (K : Nodes) (P : Fault → Type 0) (G : Sc) (t : Cn) (q : Pt) (e : Ex) (s : Place) (f : Fault) (c : Cs) → Picks (PatFault G q t) (Some f) → Behind U A B K P c
    → Behind U (λ u. A u × HasType G t q e u) (B × ((ts : List Cn) × PatFound G q t ts)) (Either K (InBody G t q e)) (Or P (ThisFault U G t q e)) (with_case G s (bad_branch f) c)
bad_step U A B K P G t q e s f c h b = record {
  type = b.type;
  alike = never_alike (λ u. A u × HasType G t q e u) c.type (λ u x. pattern_out h.0 x.1.found);
  bound = λ x. pattern_out h.0 x.1.1;
  kids = least_only_first K (InBody G t q e) c.kids (λ H d x. no_body h.0 x) b.kids;
  own = picks_two P (ThisFault U G t q e) c.own (Some f) b.own (fault_alone U G t q e f h);
}

-- and one whose body is judged: what its type tells
differs_told : (U : Cn → Type 0) (G : Sc) (t : Cn) (q : Pt) (e : Ex) (ts : List Cn) (o p : Option Cn) → ((u v : Cn) → U u → U v → u ≡ v) → Holds U o → PatFound G q t ts → TypeIs (under ts G) e p → Picks (ThisFault U G t q e) (differs G (place_of e) o p)
differs_told U G t q e ts None p one h k v = none
  where
    none : (f : Fault) → ThisFault U G t q e f → ⊥
    none f (this_pattern x) = pattern_out x k
    none f (this_type {u = u} y i z w) = h u y
differs_told U G t q e ts (Some u) None one h k v = none
  where
    none : (f : Fault) → ThisFault U G t q e f → ⊥
    none f (this_pattern x) = pattern_out x k
    none f (this_type {v = z} y i x w) = v z (subst (λ (l : List Cn). Found (under l G) e z) (one_pattern i k) x)
differs_told U G t q e ts (Some u) (Some v) one h k x = picks_as (Wants G (place_of e) u v) (ThisFault U G t q e) (wants G (place_of e) u v) (λ f w. this_type h k x w) back (picks_wants G (place_of e) u v)
  where
    as_wanted : {y z : Cn} {f : Fault} → y ≡ u → z ≡ v → Wants G (place_of e) y z f → Wants G (place_of e) u v f
    as_wanted {z = z} {f = f} m n w = subst (λ (a : Cn). Wants G (place_of e) u a f) n (subst (λ (a : Cn). Wants G (place_of e) a z f) m w)

    back : (f : Fault) → ThisFault U G t q e f → Wants G (place_of e) u v f
    back f (this_pattern y) = absurd (pattern_out y k)
    back f (this_type {u = y} {v = z} m i n w) = as_wanted (one y u m h) (one_found (subst (λ (l : List Cn). Found (under l G) e z) (one_pattern i k) n) x) w

-- whether it has the type of the first
has_given : {G : Sc} {t : Cn} {q : Pt} {e : Ex} {u v : Cn} {ts : List Cn} → PatFound G q t ts → Found (under ts G) e v → HasType G t q e u → Alike u v
has_given {G} {e = e} {u = u} k x h = subst (λ z. Alike u z) (one_found (subst (λ (l : List Cn). Found (under l G) e h.given) (one_pattern h.found k) h.has) x) h.same

stays_with : (A : Cn → Type 0) (G : Sc) (t : Cn) (q : Pt) (e : Ex) (ts : List Cn) (b : Bool) (u v : Cn) {o : Option Fault} → AlikeIs A b (Some u) → PatFound G q t ts → Found (under ts G) e v → Wanted G (place_of e) u v o → AlikeIs (λ w. A w × HasType G t q e w) (stays_alike b (Some u) (Some v) o) (Some u)
stays_with A G t q e ts true u v h k x (agree a) = (h, record { bound = ts; given = v; found = k; has = x; same = a })
stays_with A G t q e ts false u v h k x (agree a) = λ y. h y.0
stays_with A G t q e ts b u v h k x (disagree w) = λ y. wants_out (has_given k x y.1) w

stays_told : (U A : Cn → Type 0) (G : Sc) (t : Cn) (q : Pt) (e : Ex) (ts : List Cn) (b : Bool) (o p : Option Cn) → AlikeIs A b o → PatFound G q t ts → TypeIs (under ts G) e p → AlikeIs (λ u. A u × HasType G t q e u) (stays_alike b o p (differs G (place_of e) o p)) o
stays_told U A G t q e ts b None p h k v = tt
stays_told U A G t q e ts b (Some u) None h k v = λ y. v y.1.given (subst (λ (l : List Cn). Found (under l G) e y.1.given) (one_pattern y.1.found k) y.1.has)
stays_told U A G t q e ts b (Some u) (Some z) h k x = stays_with A G t q e ts b u z h k x (wanted G (place_of e) u z)

only_body : {G H : Sc} {t : Cn} {q : Pt} {e c : Ex} {ts : List Cn} → PatFound G q t ts → InBody G t q e H c → Only (under ts G) e H c
only_body h (in_body k) = one_scope h k

body_least : (G : Sc) (t : Cn) (q : Pt) (e : Ex) (ts : List Cn) (k : Jd) → PatFound G q t ts → Verdict (under ts G) e k → Least (InBody G t q e) k.told
body_least G t q e ts k h v = least_part (InBody G t q e) (under ts G) e k.told (in_body h) (λ H c s. only_body h s) v.told

good_step : (U A : Cn → Type 0) (B : Type 0) (K : Nodes) (P : Fault → Type 0) (G : Sc) (t : Cn) (q : Pt) (e : Ex) (ts : List Cn) (k : Jd) (c : Cs) → ((u v : Cn) → U u → U v → u ≡ v) → PatFound G q t ts → Verdict (under ts G) e k → Behind U A B K P c
    → Behind U (λ u. A u × HasType G t q e u) (B × ((l : List Cn) × PatFound G q t l)) (Either K (InBody G t q e)) (Or P (ThisFault U G t q e)) (with_case G (place_of e) (judged_branch k) c)
good_step U A B K P G t q e ts k c one h v b = record {
  type = b.type;
  alike = stays_told U A G t q e ts c.alike c.type k.type b.alike h v.type;
  bound = so_too B ((l : List Cn) × PatFound G q t l) c.bound (ts, h) b.bound;
  kids = least_two K (InBody G t q e) c.kids k.told b.kids (body_least G t q e ts k h v);
  own = picks_two P (ThisFault U G t q e) c.own (differs G (place_of e) c.type k.type) b.own (differs_told U G t q e ts c.type k.type one b.type h v.type);
}

step : (U A : Cn → Type 0) (B : Type 0) (K : Nodes) (P : Fault → Type 0) (G : Sc) (t : Cn) (q : Pt) (e : Ex) (c : Cs) {x : Br} → ((u v : Cn) → U u → U v → u ≡ v) → Opened G t q e x → Behind U A B K P c
    → Behind U (λ u. A u × HasType G t q e u) (B × ((l : List Cn) × PatFound G q t l)) (Either K (InBody G t q e)) (Or P (ThisFault U G t q e)) (with_case G (place_of e) x c)
step U A B K P G t q e c one (not_opened {f = f} h) b = bad_step U A B K P G t q e (place_of e) f c h b
step U A B K P G t q e c one (opened {k = k} ts h v) b = good_step U A B K P G t q e ts k c one h v b

-- a branch and those behind it
these_bodies : {G H : Sc} {t : Cn} {p : Place} {q : Pt} {e c : Ex} {bs : Brs} → Either (InBody G t q e) (InLater G t bs) H c → InLater G t (branch p q e bs) H c
these_bodies (in_first (in_body k)) = in_later this_branch k
these_bodies (in_second (in_later i k)) = in_later (past_branch i) k

first_or_later : {G : Sc} {t : Cn} {p : Place} {q r : Pt} {e c : Ex} {bs : Brs} {ts : List Cn} → InBranches (branch p q e bs) r c → PatFound G r t ts → Either (InBody G t q e) (InLater G t bs) (under ts G) c
first_or_later this_branch k = in_first (in_body k)
first_or_later (past_branch i) k = in_second (in_later i k)

those_bodies : {G H : Sc} {t : Cn} {p : Place} {q : Pt} {e c : Ex} {bs : Brs} → InLater G t (branch p q e bs) H c → Either (InBody G t q e) (InLater G t bs) H c
those_bodies (in_later i k) = first_or_later i k

these_faults : {U : Cn → Type 0} {G : Sc} {t : Cn} {p : Place} {q : Pt} {e : Ex} {bs : Brs} {f : Fault} → Or (ThisFault U G t q e) (LaterFault U G t bs) f → LaterFault U G t (branch p q e bs) f
these_faults (or_first (this_pattern x)) = pattern_of (branch_pattern x)
these_faults (or_first (this_type u k x w)) = type_of u (this_differs k x w)
these_faults (or_second (pattern_of x)) = pattern_of (later_pattern x)
these_faults (or_second (type_of u x)) = type_of u (later_differs x)

pattern_or : {U : Cn → Type 0} {G : Sc} {t : Cn} {p : Place} {q : Pt} {e : Ex} {bs : Brs} {f : Fault} → BranchFault G t (branch p q e bs) f → Or (ThisFault U G t q e) (LaterFault U G t bs) f
pattern_or (branch_pattern x) = or_first (this_pattern x)
pattern_or (later_pattern x) = or_second (pattern_of x)

type_or : {U : Cn → Type 0} {G : Sc} {t u : Cn} {p : Place} {q : Pt} {e : Ex} {bs : Brs} {f : Fault} → U u → BranchDiffers G t u (branch p q e bs) f → Or (ThisFault U G t q e) (LaterFault U G t bs) f
type_or m (this_differs k x w) = or_first (this_type m k x w)
type_or m (later_differs x) = or_second (type_of m x)

those_faults : {U : Cn → Type 0} {G : Sc} {t : Cn} {p : Place} {q : Pt} {e : Ex} {bs : Brs} {f : Fault} → LaterFault U G t (branch p q e bs) f → Or (ThisFault U G t q e) (LaterFault U G t bs) f
those_faults (pattern_of x) = pattern_or x
those_faults (type_of m x) = type_or m x

these_types : (A : Cn → Type 0) {G : Sc} {t u : Cn} {p : Place} {q : Pt} {e : Ex} {bs : Brs} → (A u × HasType G t q e u) × EachFound no_cover G t bs u → A u × EachFound no_cover G t (branch p q e bs) u
these_types A ((a, h), x) = (a, branch_found h.found h.has h.same x)

those_types : (A : Cn → Type 0) {G : Sc} {t u : Cn} {p : Place} {q : Pt} {e : Ex} {bs : Brs} → A u × EachFound no_cover G t (branch p q e bs) u → (A u × HasType G t q e u) × EachFound no_cover G t bs u
those_types A (a, branch_found {v = v} {ts = ts} k x s more) = ((a, record { bound = ts; given = v; found = k; has = x; same = s }), more)

these_patterns : {B : Type 0} {G : Sc} {t : Cn} {q : Pt} {qs : List Pt} → (B × ((ts : List Cn) × PatFound G q t ts)) × PatsFound G t qs → B × PatsFound G t (q ∷ qs)
these_patterns ((b, (ts, k)), x) = (b, a_pat k x)

those_patterns : {B : Type 0} {G : Sc} {t : Cn} {q : Pt} {qs : List Pt} → B × PatsFound G t (q ∷ qs) → (B × ((ts : List Cn) × PatFound G q t ts)) × PatsFound G t qs
those_patterns (b, a_pat {ts = ts} k x) = ((b, (ts, k)), x)

-- no branch more
none_more : (U A : Cn → Type 0) (B : Type 0) (K : Nodes) (P : Fault → Type 0) (G : Sc) (t : Cn) (c : Cs) → Behind U A B K P c → Behind U (λ u. A u × EachFound no_cover G t no_branches u) (B × PatsFound G t []) (Either K (InLater G t no_branches)) (Or P (LaterFault U G t no_branches)) c
none_more U A B K P G t c b = record {
  type = b.type;
  alike = alike_as A (λ u. A u × EachFound no_cover G t no_branches u) c.alike c.type (λ u a. (a, no_branch_found)) (λ u x. x.0) b.alike;
  bound = so_as B (B × PatsFound G t []) c.bound (λ x. (x, no_pats)) (λ x. x.0) b.bound;
  kids = least_only_first K (InLater G t no_branches) c.kids no_node b.kids;
  own = picks_only_first P (LaterFault U G t no_branches) c.own no_fault b.own;
}
  where
    no_node : (H : Sc) (d : Ex) → InLater G t no_branches H d → ⊥
    no_node H d (in_later i k) = elim i [ ]

    no_fault : (f : Fault) → LaterFault U G t no_branches f → ⊥
    no_fault f (pattern_of x) = elim x [ ]
    no_fault f (type_of m x) = elim x [ ]

-- one more, and those behind it
more_behind : (U A : Cn → Type 0) (B : Type 0) (K : Nodes) (P : Fault → Type 0) (G : Sc) (t : Cn) (p : Place) (q : Pt) (e : Ex) (bs : Brs) (d : Cs)
    → Behind U (λ u. (A u × HasType G t q e u) × EachFound no_cover G t bs u) ((B × ((l : List Cn) × PatFound G q t l)) × PatsFound G t (branch_patterns bs)) (Either (Either K (InBody G t q e)) (InLater G t bs)) (Or (Or P (ThisFault U G t q e)) (LaterFault U G t bs)) d
    → Behind U (λ u. A u × EachFound no_cover G t (branch p q e bs) u) (B × PatsFound G t (q ∷ branch_patterns bs)) (Either K (InLater G t (branch p q e bs))) (Or P (LaterFault U G t (branch p q e bs))) d
more_behind U A B K P G t p q e bs d b = record {
  type = b.type;
  alike = alike_as (λ u. (A u × HasType G t q e u) × EachFound no_cover G t bs u) (λ u. A u × EachFound no_cover G t (branch p q e bs) u) d.alike d.type (λ u x. these_types A x) (λ u x. those_types A x) b.alike;
  bound = so_as ((B × ((l : List Cn) × PatFound G q t l)) × PatsFound G t (branch_patterns bs)) (B × PatsFound G t (q ∷ branch_patterns bs)) d.bound these_patterns those_patterns b.bound;
  kids = least_rest K (InBody G t q e) (InLater G t bs) (InLater G t (branch p q e bs)) d.kids (λ H c x. these_bodies x) (λ H c x. those_bodies x) b.kids;
  own = picks_rest P (ThisFault U G t q e) (LaterFault U G t bs) (LaterFault U G t (branch p q e bs)) d.own (λ f x. these_faults x) (λ f x. those_faults x) b.own;
}

-- all later branches
pub later_told : (U A : Cn → Type 0) (B : Type 0) (K : Nodes) (P : Fault → Type 0) (G : Sc) (t : Cn) (bs : Brs) (c d : Cs) → ((u v : Cn) → U u → U v → u ≡ v) → Behind U A B K P c → BranchesTold G t bs c d
    → Behind U (λ u. A u × EachFound no_cover G t bs u) (B × PatsFound G t (branch_patterns bs)) (Either K (InLater G t bs)) (Or P (LaterFault U G t bs)) d
later_told U A B K P G t no_branches c d one b h =
    subst (λ (z : Cs). Behind U (λ u. A u × EachFound no_cover G t no_branches u) (B × PatsFound G t []) (Either K (InLater G t no_branches)) (Or P (LaterFault U G t no_branches)) z) (sym h)
    (none_more U A B K P G t c b)
later_told U A B K P G t (branch p q e bs) c d one b (x, (o, h)) =
    more_behind U A B K P G t p q e bs d
    (later_told U (λ u. A u × HasType G t q e u) (B × ((l : List Cn) × PatFound G q t l)) (Either K (InBody G t q e)) (Or P (ThisFault U G t q e)) G t bs (with_case G (place_of e) x c) d one
    (step U A B K P G t q e c one (opened_is G t q e x o) b) h)

-- the first branch: its type
pub record FirstHas (G : Sc) (t : Cn) (r : Pt) (e : Ex) (u : Cn) : Type 0 where
  pub bound : List Cn
  pub found : PatFound G r t bound
  pub has : Found (under bound G) e u

pub one_first : {G : Sc} {t : Cn} {r : Pt} {e : Ex} (u v : Cn) → FirstHas G t r e u → FirstHas G t r e v → u ≡ v
one_first {G} {e = e} u v h k = one_found h.has (subst (λ (l : List Cn). Found (under l G) e v) (one_pattern k.found h.found) k.has)

-- of one branch nothing is asked but its pattern and its type
abbrev pub Alone : Cn → Type 0
Alone u = Unit {0}

no_first : {G : Sc} {t : Cn} {r : Pt} {e : Ex} {f : Fault} (u : Cn) → PatFault G r t f → FirstHas G t r e u → ⊥
no_first u x h = pattern_out x h.found

first_type : (G : Sc) (t : Cn) (r : Pt) (e : Ex) (ts : List Cn) (o : Option Cn) → PatFound G r t ts → TypeIs (under ts G) e o → Holds (FirstHas G t r e) o
first_type G t r e ts None h v = λ u x. v u (subst (λ (l : List Cn). Found (under l G) e u) (one_pattern x.found h) x.has)
first_type G t r e ts (Some u) h v = record { bound = ts; found = h; has = v }

alone_alike : (o : Option Cn) → AlikeIs Alone true o
alone_alike None = tt
alone_alike (Some u) = tt

pub first_told : (G : Sc) (t : Cn) (r : Pt) (e : Ex) {x : Br} → Opened G t r e x → Behind (FirstHas G t r e) Alone ((ts : List Cn) × PatFound G r t ts) (InBody G t r e) (PatFault G r t) (first_case x)
first_told G t r e (not_opened {f = f} h) = record {
  type = λ u x. no_first u h.0 x;
  alike = tt;
  bound = λ x. pattern_out h.0 x.1;
  kids = least_empty (InBody G t r e) (λ H c x. no_body h.0 x);
  own = h;
}
first_told G t r e (opened {k = k} ts h v) = record {
  type = first_type G t r e ts k.type h v.type;
  alike = alone_alike k.type;
  bound = (ts, h);
  kids = body_least G t r e ts k h v;
  own = λ f x. pattern_out x h;
}
