-- What a state says of declarations: whether they are found, what is told of their terms, and what of themselves.
use Rattle.std.proofs.Common.{◌≡◌, Bool, true, false, Option, Some, None, Result, Ok, Err}
use Rattle.con_terms.specs.Trees.{Kd, types, Cn}
use Rattle.con_terms.specs.declared.place.Place.{Place}
use Rattle.kind_rules.specs.Flaws.{Flw}
use Rattle.kind_rules.specs.Kinding.{judged_at}
use Rattle.core_terms.specs.Trees.{Ex}
use Rattle.core_typing.specs.Scopes.{Sc}
use Rattle.core_typing.specs.Compared.{Alike}
use Rattle.core_typing.specs.Faults.{Fault}
use Rattle.core_typing.specs.Found.{Found}
use Rattle.core_typing.specs.Judged.{HasKind, LacksKind, lacks, flaw_at}
use Rattle.core_typing.specs.Own.{Wants}
use Rattle.core_typing.proofs.Excluded.{kind_out, wants_out}
use Rattle.told_faults.specs.Computed.{Jd, wants, on_type}
use Rattle.told_faults.specs.Heads.{Wanted, agree, disagree, Kindly, kindly, unkind}
use Rattle.told_faults.specs.Told.{TypeIs, Verdict, Picks, Nodes, Least, Or, Either, Only, Nowhere, Never, OfType}
use Rattle.told_faults.proofs.Parts.{same_type, picks_of_type, picks_wants, picks_flaw, wanted, kind_is}
use Rattle.told_faults.proofs.Verdict.{picks_as, picks_never, picks_two, least_as, least_nowhere, least_two, one}
use Rattle.node_rules.specs.Locals.{Ls, none_yet, is_silent, is_as_wanted, both_true, of_declared, and_then_found}
use Rattle.told_terms.proofs.Beside.{least_rest, least_start, picks_rest, picks_start}

-- something holds, or it doesn't
abbrev pub Decides : Type 0 → Bool → Type 0
Decides F true = F
Decides F false = F → ⊥

-- what a state says of declarations: whether they are found, which is F; what is told of their terms, which are the
-- nodes N; and one of the first of their own faults, which are P
pub record StateIs (F : Type 0) (N : Nodes) (P : Fault → Type 0) (r : Ls) : Type 0 where
  pub found : Decides F r.found
  pub kids : Least N r.kids
  pub own : Picks P r.own

-- in other words
decides_as : (F D : Type 0) (b : Bool) → (F → D) → (D → F) → Decides F b → Decides D b
decides_as F D true there back h = there h
decides_as F D false there back h = λ x. h (back x)

pub state_as : (F D : Type 0) (N M : Nodes) (P Q : Fault → Type 0) (r : Ls) → (F → D) → (D → F) → ((H : Sc) (c : Ex) → N H c → M H c) → ((H : Sc) (c : Ex) → M H c → N H c) → ((f : Fault) → P f → Q f) → ((f : Fault) → Q f → P f) → StateIs F N P r → StateIs D M Q r
state_as F D N M P Q r a b m n p q s = record {
  found = decides_as F D r.found a b s.found;
  kids = least_as N M r.kids m n s.kids;
  own = picks_as P Q r.own p q s.own;
}

-- behind those before it, one more, and the rest: those before it, and all from the one on
pub state_rest : (F D E W : Type 0) (N M L R : Nodes) (P Q S T : Fault → Type 0) (r : Ls) → (D → E → W) → (W → D) → (W → E) → ((H : Sc) (c : Ex) → Either M L H c → R H c) → ((H : Sc) (c : Ex) → R H c → Either M L H c) → ((f : Fault) → Or Q S f → T f) → ((f : Fault) → T f → Or Q S f) → StateIs ((F × D) × E) (Either (Either N M) L) (Or (Or P Q) S) r → StateIs (F × W) (Either N R) (Or P T) r
state_rest F D E W N M L R P Q S T r g h i m n p q s = record {
  found = decides_as ((F × D) × E) (F × W) r.found (λ z. (z.0.0, g z.0.1 z.1)) (λ z. ((z.0, h z.1), i z.1)) s.found;
  kids = least_rest N M L R r.kids m n s.kids;
  own = picks_rest P Q S T r.own p q s.own;
}

-- behind nothing
pub state_start : (W : Type 0) (R : Nodes) (T : Fault → Type 0) (r : Ls) → StateIs (Unit {0} × W) (Either Nowhere R) (Or Never T) r → StateIs W R T r
state_start W R T r s = record {
  found = decides_as (Unit {0} × W) W r.found (λ z. z.1) (λ z. (tt, z)) s.found;
  kids = least_start R r.kids s.kids;
  own = picks_start T r.own s.own;
}

-- of no declarations
pub none_state : StateIs (Unit {0}) Nowhere Never none_yet
none_state = record { found = tt; kids = least_nowhere; own = picks_never }

-- of two states
second_decides : (F D : Type 0) (b : Bool) → F → Decides D b → Decides (F × D) b
second_decides F D true x h = (x, h)
second_decides F D false x h = λ z. h z.1

decides_two : (F D : Type 0) (a b : Bool) → Decides F a → Decides D b → Decides (F × D) (both_true a b)
decides_two F D true b x h = second_decides F D b x h
decides_two F D false b x h = λ z. x z.0

pub state_two : (F D : Type 0) (N M : Nodes) (P Q : Fault → Type 0) (r s : Ls) → StateIs F N P r → StateIs D M Q s → StateIs (F × D) (Either N M) (Or P Q) (and_then_found r s)
state_two F D N M P Q r s x y = record {
  found = decides_two F D r.found s.found x.found y.found;
  kids = least_two N M r.kids s.kids x.kids y.kids;
  own = picks_two P Q r.own s.own x.own y.own;
}

-- a term of a type that is written: it is found to have it, where the term stands in another scope
pub record IsDeclared (G H : Sc) (t : Cn) (e : Ex) : Type 0 where
  pub kind : HasKind G t types
  pub given : Cn
  pub found : Found H e given
  pub same : Alike t given

-- or the type hasn't its kind, which is told at p, or the term has another type, which is told at q
pub data DeclaredFault (G H : Sc) (p q : Place) (t : Cn) (e : Ex) : Fault → Type 0 where
  of_kind : {f : Fault}
      → LacksKind G p t types f
      → DeclaredFault G H p q t e f
  of_type : {u : Cn} {f : Fault}
      → HasKind G t types
      → Found H e u
      → Wants G q t u f
      → DeclaredFault G H p q t e f

-- the type has no kind
unkind_own : (G H : Sc) (p q : Place) (t : Cn) (e : Ex) (w : Flw) → judged_at G.kinds t types ≡ Err w → Picks (DeclaredFault G H p q t e) (Some (flaw_at p G.called w))
unkind_own G H p q t e w x = picks_as (LacksKind G p t types) (DeclaredFault G H p q t e) (Some (flaw_at p G.called w)) (λ f y. of_kind y) back (picks_flaw G p t types (Err w) (unkind x))
  where
    back : (f : Fault) → DeclaredFault G H p q t e f → LacksKind G p t types f
    back f (of_kind y) = y
    back f (of_type k y z) = absurd (kind_out k (lacks {p = p} x))

unkind_state : (G H : Sc) (p q : Place) (t : Cn) (e : Ex) (j : Jd) (w : Flw) → judged_at G.kinds t types ≡ Err w → Verdict H e j → StateIs (IsDeclared G H t e) (Only H e) (DeclaredFault G H p q t e) (of_declared G p q t (Err w) j)
unkind_state G H p q t e j w x v = record {
  found = λ d. kind_out d.kind (lacks {p = p} x);
  kids = one H e j.told v.told;
  own = unkind_own G H p q t e w x;
}

-- it has: the term's type is compared with it, if there is one
kindly_own : (G H : Sc) (p q : Place) (t : Cn) (e : Ex) (o : Option Cn) → HasKind G t types → TypeIs H e o → Picks (DeclaredFault G H p q t e) (on_type o (wants G q t))
kindly_own G H p q t e o k v = picks_as (OfType H e (λ u. Wants G q t u)) (DeclaredFault G H p q t e) (on_type o (wants G q t)) there back (picks_of_type H e (λ u. Wants G q t u) (wants G q t) (λ u. picks_wants G q t u) o v)
  where
    there : (f : Fault) → OfType H e (λ u. Wants G q t u) f → DeclaredFault G H p q t e f
    there f (u, x, y) = of_type k x y

    back : (f : Fault) → DeclaredFault G H p q t e f → OfType H e (λ u. Wants G q t u) f
    back f (of_kind y) = absurd (kind_out k y)
    back f (of_type {u = u} l x y) = (u, x, y)

found_by_wanted : (G H : Sc) (q : Place) (t u : Cn) (e : Ex) (o : Option Fault) → HasKind G t types → Found H e u → Wanted G q t u o → Decides (IsDeclared G H t e) (is_silent o)
found_by_wanted G H q t u e None k x (agree a) = record { kind = k; given = u; found = x; same = a }
found_by_wanted G H q t u e (Some f) k x (disagree w) = λ d. wants_out (same_type (λ z. Alike t z) x d.found d.same) w

kindly_found : (G H : Sc) (q : Place) (t : Cn) (e : Ex) (o : Option Cn) → HasKind G t types → TypeIs H e o → Decides (IsDeclared G H t e) (is_as_wanted G q t o)
kindly_found G H q t e None k v = λ d. v d.given d.found
kindly_found G H q t e (Some u) k v = found_by_wanted G H q t u e (wants G q t u) k v (wanted G q t u)

declared_by : (G H : Sc) (p q : Place) (t : Cn) (e : Ex) (j : Jd) (r : Result Kd Flw) → Kindly G t types r → Verdict H e j → StateIs (IsDeclared G H t e) (Only H e) (DeclaredFault G H p q t e) (of_declared G p q t r j)
declared_by G H p q t e j (Err w) (unkind x) v = unkind_state G H p q t e j w x v
declared_by G H p q t e j (Ok l) (kindly k) v = record {
  found = kindly_found G H q t e j.type k v.type;
  kids = one H e j.told v.told;
  own = kindly_own G H p q t e j.type k v.type;
}

-- one declaration alone
pub declared_state : (G H : Sc) (p q : Place) (t : Cn) (e : Ex) (j : Jd) → Verdict H e j → StateIs (IsDeclared G H t e) (Only H e) (DeclaredFault G H p q t e) (of_declared G p q t (judged_at G.kinds t types) j)
declared_state G H p q t e j v = declared_by G H p q t e j (judged_at G.kinds t types) (kind_is G t types) v
