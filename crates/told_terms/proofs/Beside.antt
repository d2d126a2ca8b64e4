-- Sets of faults and of nodes beside one another: one set from others, one more part behind those before it, faults
-- that count only where something holds, and the order in which the first of several is computed.
use Rattle.std.proofs.Common.{◌≡◌, Bool, true, false, Option, Some, None, if◌then◌else◌, refl, ap, sym, ◌∙◌, subst}
use Rattle.std.proofs.lemmas.Bool.{false_from_ne_true as not_so, true_from_ne_false as so}
use Rattle.con_terms.specs.declared.place.Place.{Place}
use Rattle.core_terms.specs.Trees.{Ex}
use Rattle.core_typing.specs.Scopes.{Sc}
use Rattle.core_typing.specs.Faults.{Fault, at, Earlier}
use Rattle.told_faults.specs.Computed.{Jd, first, sooner}
use Rattle.told_faults.specs.Told.{Verdict, Picks, Nodes, Least, Or, or_first, or_second, Either, in_first, in_second, Only, Nowhere, Never}
use Rattle.told_faults.proofs.Ordering.{sooner_is, sooner_isnt, stands_before, none_before, never_both, not_itself}
use Rattle.told_faults.proofs.Verdict.{picks_as, least_as, picks_two, least_two, one}
use Rattle.told_terms.proofs.Verdicts.{first_none}

-- one set from two
pub picks_from : (P Q R : Fault → Type 0) (k l : Option Fault) → ((f : Fault) → P f → R f) → ((f : Fault) → Q f → R f) → ((f : Fault) → R f → Or P Q f) → Picks P k → Picks Q l → Picks R (first k l)
picks_from P Q R k l a b back h i = picks_as (Or P Q) R (first k l) there back (picks_two P Q k l h i)
  where
    there : (f : Fault) → Or P Q f → R f
    there f (or_first x) = a f x
    there f (or_second x) = b f x

pub least_from : (N M L : Nodes) (k l : Option Fault) → ((H : Sc) (c : Ex) → N H c → L H c) → ((H : Sc) (c : Ex) → M H c → L H c) → ((H : Sc) (c : Ex) → L H c → Either N M H c) → Least N k → Least M l → Least L (first k l)
least_from N M L k l a b back h i = least_as (Either N M) L (first k l) there back (least_two N M k l h i)
  where
    there : (H : Sc) (c : Ex) → Either N M H c → L H c
    there H c (in_first s) = a H c s
    there H c (in_second s) = b H c s

-- one fault alone
pub picks_alone : (P : Fault → Type 0) (g : Fault) → P g → ((f : Fault) → P f → f ≡ g) → Picks P (Some g)
picks_alone P g x all = (x, λ f y e. not_itself (at g) (subst (λ (z : Fault). Earlier (at z) (at g)) (all f y) e))

-- faults that count only where something holds
abbrev pub Under : Type 0 → (Fault → Type 0) → Fault → Type 0
Under X P f = X × P f

pub picks_under : (X : Type 0) (P : Fault → Type 0) (o : Option Fault) → X → Picks P o → Picks (Under X P) o
picks_under X P o x p = picks_as P (Under X P) o (λ f y. (x, y)) (λ f y. y.1) p

pub picks_not_under : (X : Type 0) (P : Fault → Type 0) → (X → ⊥) → Picks (Under X P) None
picks_not_under X P n = λ f y. n y.0

-- the earlier of two sets of which one is empty
pub picks_only_first : (P Q : Fault → Type 0) (o : Option Fault) → ((f : Fault) → Q f → ⊥) → Picks P o → Picks (Or P Q) o
picks_only_first P Q o n p = picks_as P (Or P Q) o (λ f x. or_first x) back p
  where
    back : (f : Fault) → Or P Q f → P f
    back f (or_first x) = x
    back f (or_second x) = absurd (n f x)

pub picks_only_second : (P Q : Fault → Type 0) (o : Option Fault) → ((f : Fault) → P f → ⊥) → Picks Q o → Picks (Or P Q) o
picks_only_second P Q o n p = picks_as Q (Or P Q) o (λ f x. or_second x) back p
  where
    back : (f : Fault) → Or P Q f → Q f
    back f (or_first x) = absurd (n f x)
    back f (or_second x) = x

pub least_only_first : (N M : Nodes) (o : Option Fault) → ((H : Sc) (c : Ex) → M H c → ⊥) → Least N o → Least (Either N M) o
least_only_first N M o n p = least_as N (Either N M) o (λ H c x. in_first x) back p
  where
    back : (H : Sc) (c : Ex) → Either N M H c → N H c
    back H c (in_first x) = x
    back H c (in_second x) = absurd (n H c x)

pub least_only_second : (N M : Nodes) (o : Option Fault) → ((H : Sc) (c : Ex) → N H c → ⊥) → Least M o → Least (Either N M) o
least_only_second N M o n p = least_as M (Either N M) o (λ H c x. in_second x) back p
  where
    back : (H : Sc) (c : Ex) → Either N M H c → M H c
    back H c (in_first x) = absurd (n H c x)
    back H c (in_second x) = x

pub never_none : (f : Fault) → Never f → ⊥
never_none f x = elim x [ ]

pub nowhere_none : (H : Sc) (c : Ex) → Nowhere H c → ⊥
nowhere_none H c x = elim x [ ]

-- one more part behind those before it
pub least_more : (N : Nodes) (H : Sc) (c : Ex) (k : Option Fault) (j : Jd) → Least N k → Verdict H c j → Least (Either N (Only H c)) (first k j.told)
least_more N H c k j h v = least_two N (Only H c) k j.told h (one H c j.told v.told)

-- what is behind, one more, and the rest: what is behind, and those from the one on
pub least_rest : (N M L R : Nodes) (k : Option Fault) → ((H : Sc) (c : Ex) → Either M L H c → R H c) → ((H : Sc) (c : Ex) → R H c → Either M L H c) → Least (Either (Either N M) L) k → Least (Either N R) k
least_rest N M L R k a b h = least_as (Either (Either N M) L) (Either N R) k there back h
  where
    there : (H : Sc) (c : Ex) → Either (Either N M) L H c → Either N R H c
    there H c (in_first (in_first x)) = in_first x
    there H c (in_first (in_second x)) = in_second (a H c (in_first x))
    there H c (in_second x) = in_second (a H c (in_second x))

    behind : (H : Sc) (c : Ex) → Either M L H c → Either (Either N M) L H c
    behind H c (in_first x) = in_first (in_second x)
    behind H c (in_second x) = in_second x

    back : (H : Sc) (c : Ex) → Either N R H c → Either (Either N M) L H c
    back H c (in_first x) = in_first (in_first x)
    back H c (in_second x) = behind H c (b H c x)

pub picks_rest : (P Q S R : Fault → Type 0) (k : Option Fault) → ((f : Fault) → Or Q S f → R f) → ((f : Fault) → R f → Or Q S f) → Picks (Or (Or P Q) S) k → Picks (Or P R) k
picks_rest P Q S R k a b h = picks_as (Or (Or P Q) S) (Or P R) k there back h
  where
    there : (f : Fault) → Or (Or P Q) S f → Or P R f
    there f (or_first (or_first x)) = or_first x
    there f (or_first (or_second x)) = or_second (a f (or_first x))
    there f (or_second x) = or_second (a f (or_second x))

    behind : (f : Fault) → Or Q S f → Or (Or P Q) S f
    behind f (or_first x) = or_first (or_second x)
    behind f (or_second x) = or_second x

    back : (f : Fault) → Or P R f → Or (Or P Q) S f
    back f (or_first x) = or_first (or_first x)
    back f (or_second x) = behind f (b f x)

-- behind nothing
pub least_start : (N : Nodes) (k : Option Fault) → Least (Either Nowhere N) k → Least N k
least_start N k h = least_as (Either Nowhere N) N k there (λ H c x. in_second x) h
  where
    there : (H : Sc) (c : Ex) → Either Nowhere N H c → N H c
    there H c (in_first x) = absurd (nowhere_none H c x)
    there H c (in_second x) = x

pub picks_start : (P : Fault → Type 0) (k : Option Fault) → Picks (Or Never P) k → Picks P k
picks_start P k h = picks_as (Or Never P) P k there (λ f x. or_second x) h
  where
    there : (f : Fault) → Or Never P f → P f
    there f (or_first x) = absurd (never_none f x)
    there f (or_second x) = x

-- the order in which the first of three is computed:
-- q before p, r before q: r before p; and q not before p, r not before q: r not before p
both_sooner : (p q r : Place) → sooner q p ≡ true → sooner r q ≡ true → sooner r p ≡ true
both_sooner p q r h k = so (sooner r p) (λ e. sooner_isnt r p e (stands_before p q r (never_both p q (sooner_is q p h)) (sooner_is r q k)))

neither_sooner : (p q r : Place) → sooner q p ≡ false → sooner r q ≡ false → sooner r p ≡ false
neither_sooner p q r h k = not_so (sooner r p) (λ e. none_before r p q (sooner_isnt r q k) (sooner_isnt q p h) (sooner_is r p e))

abbrev chosen : Fault → Fault → Bool → Option Fault
chosen f g b = if b then Some g else Some f

first_of_three : (f g h : Fault) (x y : Bool) → sooner (at g) (at f) ≡ x → sooner (at h) (at g) ≡ y → first (chosen f g x) (Some h) ≡ first (Some f) (chosen g h y)
first_of_three f g h true true i k = ap (chosen g h) k ∙ sym (ap (chosen f h) (both_sooner (at f) (at g) (at h) i k))
first_of_three f g h true false i k = ap (chosen g h) k ∙ sym (ap (chosen f g) i)
first_of_three f g h false true i k = refl
first_of_three f g h false false i k = ap (chosen f h) (neither_sooner (at f) (at g) (at h) i k) ∙ sym (ap (chosen f g) i)

pub first_assoc : (k l m : Option Fault) → first (first k l) m ≡ first k (first l m)
first_assoc None l m = refl
first_assoc (Some f) None m = refl
first_assoc (Some f) (Some g) None = first_none (first (Some f) (Some g))
first_assoc (Some f) (Some g) (Some h) = first_of_three f g h (sooner (at g) (at f)) (sooner (at h) (at g)) refl refl
