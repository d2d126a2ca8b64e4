-- Cases, branch by branch.
use Rattle.std.proofs.Common.{◌≡◌, Bool, true, false, List, ◌∷◌, Option, Some, None, refl, ap, sym, ◌∙◌, subst}
use Rattle.con_terms.specs.Trees.{Cn}
use Rattle.con_terms.specs.declared.place.Place.{Place}
use Rattle.core_terms.specs.Trees.{Pt, Ex, node, case_of, Brs, no_branches, branch}
use Rattle.core_typing.specs.Scopes.{Sc, under}
use Rattle.core_typing.specs.Cover.{Covers}
use Rattle.core_typing.specs.Compared.{Alike}
use Rattle.core_typing.specs.Faults.{Fault}
use Rattle.core_typing.specs.Typed.{branch_patterns}
use Rattle.core_typing.specs.Found.{FoundBy, case_has, EachFound, no_branch_found, branch_found}
use Rattle.core_typing.specs.PatternFaults.{PatFound}
use Rattle.told_faults.specs.Computed.{Jd, first, wants}
use Rattle.judgements.specs.Bindings.{Bd, bind_these, bad_pattern, having}
use Rattle.pattern_rules.specs.Binds.{binding}
use Rattle.pattern_rules.specs.Matching.{Br, bad_branch, judged_branch, Cs, first_case, stays_alike, differs, with_case, if_true, of_case}
use Rattle.pattern_rules.proofs.Bound.{BindsAs, pattern_binds}
use Rattle.judged_terms.specs.Openings.{bound_scope, pattern_scope, BranchIn}
use Rattle.judged_terms.specs.Judge.{Missed, OfMatched}
use Rattle.judged_terms.specs.Laws.{Sound}
use Rattle.judged_terms.proofs.Basics.{some_none, none_some, untyped, as_judged, first_parts, alike, covered}
use Rattle.judged_terms.proofs.Functions.{under_pattern}

bad_not : {f : Fault} {k : Jd} → bad_branch f ≡ judged_branch k → ⊥
bad_not h = cc

judged_is : {j k : Jd} → judged_branch j ≡ judged_branch k → j ≡ k
judged_is h = cc

pub false_not : {b : Bool} → b ≡ false → b ≡ true → ⊥
false_not h k = cc

-- a branch whose body is judged
branch_by : (G : Sc) (q : Pt) (t : Cn) (e : Ex) (J : Sc → Jd → Type 0) (d : Bd) (x : Br) (k : Jd) → BindsAs G G.locals q t d → ((H : Sc) (i : Jd) → J H i → Sound H e i) → BranchIn (bound_scope G d) J x → x ≡ judged_branch k → (ts : List Cn) × PatFound G q t ts × Sound (under ts G) e k
branch_by G q t e J (bad_pattern f) x k i v b h = absurd (bad_not (sym b ∙ h))
branch_by G q t e J (bind_these l) (bad_branch f) k i v b h = absurd b
branch_by G q t e J (bind_these l) (judged_branch m) k i v b h =
    under_pattern G q t e l k (subst (λ (z : Jd). Sound (having l G) e z) (judged_is h) (v (having l G) m b)) i

branch_gives : (G : Sc) (q : Pt) (t : Cn) (e : Ex) (J : Sc → Jd → Type 0) (x : Br) (k : Jd) → ((H : Sc) (i : Jd) → J H i → Sound H e i) → BranchIn (pattern_scope G q t) J x → x ≡ judged_branch k → (ts : List Cn) × PatFound G q t ts × Sound (under ts G) e k
branch_gives G q t e J x k v b h = branch_by G q t e J (binding G G.locals q t) x k (pattern_binds G G.locals q t) v b h

-- branches have a type, and nothing is told
pub record Good (c : Cs) (u : Cn) : Type 0 where
  pub type : c.type ≡ Some u
  pub alike : c.alike ≡ true
  pub kids : c.kids ≡ None
  pub own : c.own ≡ None

-- the later branches have the type, and so have those before them
pub record Later (G : Sc) (t : Cn) (bs : Brs) (c d : Cs) (u : Cn) : Type 0 where
  pub before : Good c u
  pub each : EachFound Covers G t bs u
  pub same : d.bound ≡ c.bound

pub none_later : (G : Sc) (t : Cn) (c d : Cs) (u : Cn) → d ≡ c → Good d u → Later G t no_branches c d u
none_later G t c d u h g = record { before = subst (λ (z : Cs). Good z u) h g; each = no_branch_found; same = ap (λ (z : Cs). z.bound) h }

-- one more branch
record Judged (G : Sc) (q : Place) (x : Br) (c : Cs) (u : Cn) : Type 0 where
  is : Jd
  given : Cn
  judged : x ≡ judged_branch is
  before : Good c u
  type : is.type ≡ Some given
  told : is.told ≡ None
  same : Alike u given
  bound : (with_case G q x c).bound ≡ c.bound

record Stays (a : Bool) (o : Option Cn) : Type 0 where
  alike : a ≡ true
  given : Cn
  type : o ≡ Some given

stays_is : (a : Bool) (o p : Option Cn) (told : Option Fault) → stays_alike a o p told ≡ true → Stays a p
stays_is a None p told h = absurd (false_not refl h)
stays_is a (Some u) None told h = absurd (false_not refl h)
stays_is a (Some u) (Some v) None h = record { alike = h; given = v; type = refl }
stays_is a (Some u) (Some v) (Some f) h = absurd (false_not refl h)

silent_wants : (G : Sc) (q : Place) (o p : Option Cn) (u v : Cn) → o ≡ Some u → p ≡ Some v → differs G q o p ≡ None → wants G q u v ≡ None
silent_wants G q o p u v h k n =
    subst (λ (z : Option Cn). differs G q z (Some v) ≡ None) h (subst (λ (z : Option Cn). differs G q o z ≡ None) k n)

judged_by : (G : Sc) (q : Place) (x : Br) (c : Cs) (u : Cn) → Good (with_case G q x c) u → Judged G q x c u
judged_by G q (bad_branch f) c u g = absurd (some_none (first_parts c.own (Some f) g.own).1)
judged_by G q (judged_branch k) c u g =
    let s = stays_is c.alike c.type k.type (differs G q c.type k.type) g.alike in
    let (kids, told) = first_parts c.kids k.told g.kids in
    let (own, none) = first_parts c.own (differs G q c.type k.type) g.own in
    record {
      is = k;
      given = s.given;
      judged = refl;
      before = record { type = g.type; alike = s.alike; kids = kids; own = own };
      type = s.type;
      told = told;
      same = alike G q u s.given (silent_wants G q c.type k.type u s.given g.type s.type none);
      bound = refl;
    }

pub case_step : (G : Sc) (t : Cn) (p s : Place) (q : Pt) (e : Ex) (bs : Brs) (J : Sc → Jd → Type 0) (x : Br) (c d : Cs) (u : Cn) → ((H : Sc) (k : Jd) → J H k → Sound H e k) → BranchIn (pattern_scope G q t) J x → Later G t bs (with_case G s x c) d u → Later G t (branch p q e bs) c d u
case_step G t p s q e bs J x c d u v b l =
    let y = judged_by G s x c u l.before in
    let (ts, found, w) = branch_gives G q t e J x y.is v b y.judged in
    record {
      before = y.before;
      each = branch_found found (w y.given y.type y.told) y.same l.each;
      same = l.same ∙ y.bound;
    }

-- the first branch
record First (x : Br) (u : Cn) : Type 0 where
  is : Jd
  judged : x ≡ judged_branch is
  type : is.type ≡ Some u
  told : is.told ≡ None
  bound : (first_case x).bound ≡ true

first_by : (x : Br) (u : Cn) → Good (first_case x) u → First x u
first_by (bad_branch f) u g = absurd (some_none g.own)
first_by (judged_branch k) u g = record { is = k; judged = refl; type = g.type; told = g.kids; bound = refl }

-- the whole
true_is : (b : Bool) (o : Option Cn) {u : Cn} → if_true b o ≡ Some u → (b ≡ true) × (o ≡ Some u)
true_is true o h = (refl, h)
true_is false o h = absurd (none_some h)

case_ends : (m o : Option Fault) (c : Cs) {u : Cn} → (of_case m c o).type ≡ Some u → (of_case m c o).told ≡ None → (m ≡ None) × Good c u × (o ≡ None)
case_ends m o c h n =
    let (a, b) = true_is c.alike c.type h in
    let (k, l) = first_parts (first m c.kids) (first c.own o) n in
    let (i, kids) = first_parts m c.kids k in
    let (own, e) = first_parts c.own o l in
    (i, record { type = b; alike = a; kids = kids; own = own }, e)

missed_none : (G : Sc) (p : Place) (b : Bool) (ps : List Pt) (t : Cn) (o : Option Fault) → b ≡ true → Missed G p b ps t o → o ≡ None → Covers G.datatypes ps t
missed_none G p b ps t o h m n = covered G p ps t o (subst (λ (z : Bool). Missed G p z ps t o) h m) n

-- what is judged of the branches at a type
pub record Branches (G : Sc) (p : Place) (r : Pt) (bs : Brs) (B : Cn → Cs → Cs → Type 0) (J : Sc → Jd → Type 0) (i j : Jd) (t : Cn) : Type 0 where
  pub cases : Cs
  pub told : Option Fault
  pub first : Br
  pub opened : BranchIn (pattern_scope G r t) J first
  pub later : B t (first_case first) cases
  pub missed : Missed G p cases.bound (r ∷ branch_patterns bs) t told
  pub is : j ≡ of_case i.told cases told

at_type : (G : Sc) (p q : Place) (a : Bool) (e : Ex) (r : Pt) (b : Ex) (bs : Brs) (B : Cn → Cs → Cs → Type 0) (J : Sc → Jd → Type 0) (i j : Jd) (t : Cn) → i.type ≡ Some t → Sound G e i → ((H : Sc) (k : Jd) → J H k → Sound H b k) → ((c d : Cs) (u : Cn) → B t c d → Good d u → Later G t bs c d u) → Branches G p r bs B J i j t → Sound G (node p a (case_of e q r b bs)) j
at_type G p q a e r b bs B J i j t type v w l y = as_judged j y.is (λ u h n. by_parts u (case_ends i.told y.told y.cases h n))
  where
    by_later : (u : Cn) → i.told ≡ None → y.told ≡ None → Later G t bs (first_case y.first) y.cases u → FoundBy Covers G (node p a (case_of e q r b bs)) u
    by_later u m n z =
        let f = first_by y.first u z.before in
        let (ts, found, x) = branch_gives G r t b J y.first f.is w y.opened f.judged in
        case_has (v t type m) found (x u f.type f.told) z.each
        (missed_none G p y.cases.bound (r ∷ branch_patterns bs) t y.told (z.same ∙ f.bound) y.missed n)

    by_parts : (u : Cn) → (i.told ≡ None) × Good y.cases u × (y.told ≡ None) → FoundBy Covers G (node p a (case_of e q r b bs)) u
    by_parts u (m, g, n) = by_later u m n (l (first_case y.first) y.cases u y.later g)

pub case_sound : (G : Sc) (p q : Place) (a : Bool) (e : Ex) (r : Pt) (b : Ex) (bs : Brs) (B : Cn → Cs → Cs → Type 0) (J : Sc → Jd → Type 0) (i j : Jd) → Sound G e i → ((H : Sc) (k : Jd) → J H k → Sound H b k) → ((t : Cn) (c d : Cs) (u : Cn) → B t c d → Good d u → Later G t bs c d u) → OfMatched i (λ t. (c : Cs) × (o : Option Fault) × (((x : Br) × (BranchIn (pattern_scope G r t) J x × B t (first_case x) c)) × Missed G p c.bound (r ∷ branch_patterns bs) t o × (j ≡ of_case i.told c o))) i.type j → Sound G (node p a (case_of e q r b bs)) j
case_sound G p q a e r b bs B J i j v w l x = by_type i.type refl x
  where
    by_type : (o : Option Cn) → i.type ≡ o → OfMatched i (λ t. (c : Cs) × (o : Option Fault) × (((x : Br) × (BranchIn (pattern_scope G r t) J x × B t (first_case x) c)) × Missed G p c.bound (r ∷ branch_patterns bs) t o × (j ≡ of_case i.told c o))) o j → Sound G (node p a (case_of e q r b bs)) j
    by_type None h y = as_judged j y untyped
    by_type (Some t) h (c, o, ((z, (y, k)), m, n)) =
        at_type G p q a e r b bs B J i j t h v w (l t)
        (record { cases = c; told = o; first = z; opened = y; later = k; missed = m; is = n })
