-- What is told of a datatype: the kinds of what its constructors hold, and each constructor of a name that stands
-- before it.
use Rattle.std.proofs.Common.{◌≡◌, ℕ, zero, suc, ◌<◌, Bool, true, false, ◌==◌, if◌then◌else◌, List, [], ◌∷◌, ◌++◌, length, take, Option, Some, None, slice_get, refl, ap, sym, ◌∙◌, subst, arith}
use Rattle.std.specs.List.{Contains}
use Rattle.std.proofs.lemmas.List.{append_assoc, append-nil}
use Rattle.std.proofs.lemmas.Bool.{eq-eqb, eqb-true}
use Rattle.con_terms.specs.Trees.{types, Cn}
use Rattle.kind_rules.specs.Kinding.{judged_at}
use Rattle.con_terms.specs.declared.place.Place.{Place}
use Rattle.core_terms.specs.Trees.{Ex, Cd, Dt, Pg, datatype}
use Rattle.core_typing.specs.Scopes.{Sc}
use Rattle.core_typing.specs.Declarations.{scope_with, under_types}
use Rattle.core_typing.specs.Faults.{Fault, redeclared, twice_constructor, at, Earlier}
use Rattle.core_typing.specs.Judged.{LacksKind}
use Rattle.core_typing.specs.Tells.{DeclOwn, held_kind, same_constructor, DeclSub}
use Rattle.told_faults.specs.Computed.{first, flawed}
use Rattle.told_faults.specs.Told.{Picks, Least, Or, or_first, or_second, Never, Just, just}
use Rattle.told_faults.proofs.Parts.{picks_flaw, kind_is}
use Rattle.told_faults.proofs.Verdict.{picks_as, picks_never, picks_just, picks_two}
use Rattle.node_rules.specs.Locals.{Ls, none_yet, and_then_found}
use Rattle.told_terms.proofs.Beside.{picks_rest, picks_start}
use Rattle.core_checker.specs.Declarations.{held_told, is_named, second_told, of_constructor, constructors_found}

-- what a constructor holds is no type
data HeldFault (G : Sc) (c : Cd) : Fault → Type 0 where
  held_fault : {held : Cn} {f : Fault}
      → c.holds ≡ Some held
      → LacksKind G c.place held types f
      → HeldFault G c f

-- its name stands among those before it
data SecondFault (before : List Cd) (c : Cd) : Fault → Type 0 where
  second_fault : is_named c.name before ≡ true → SecondFault before c (redeclared c.place (twice_constructor c.name))

-- the same of constructors, behind those that stand before
data ConstructorsFault (G : Sc) : List Cd → List Cd → Fault → Type 0 where
  this_constructor : {before cs : List Cd} {c : Cd} {f : Fault}
      → Or (HeldFault G c) (SecondFault before c) f
      → ConstructorsFault G before (c ∷ cs) f
  later_constructor : {before cs : List Cd} {c : Cd} {f : Fault}
      → ConstructorsFault G (before ++ c ∷ []) cs f
      → ConstructorsFault G before (c ∷ cs) f

-- one constructor
held_picks : (G : Sc) (c : Cd) (o : Option Cn) → c.holds ≡ o → Picks (HeldFault G c) (held_told G c.place o)
held_picks G c None e = none
  where
    none : (f : Fault) → HeldFault G c f → ⊥
    none f (held_fault h x) = absurd (cc)
held_picks G c (Some held) e = picks_as (LacksKind G c.place held types) (HeldFault G c) (flawed G c.place (judged_at G.kinds held types)) (λ f x. held_fault e x) back (picks_flaw G c.place held types (judged_at G.kinds held types) (kind_is G held types))
  where
    one_held : {held u : Cn} {f : Fault} → c.holds ≡ Some held → c.holds ≡ Some u → LacksKind G c.place u types f → LacksKind G c.place held types f
    one_held {held = held} {u = u} {f = f} h k x = subst (λ (z : Cn). LacksKind G c.place z types f) (let i : u ≡ held = cc in i) x

    back : (f : Fault) → HeldFault G c f → LacksKind G c.place held types f
    back f (held_fault h x) = one_held e h x

second_picks : (before : List Cd) (c : Cd) (b : Bool) → is_named c.name before ≡ b → Picks (SecondFault before c) (second_told c.place c.name b)
second_picks before c false e = none
  where
    none : (f : Fault) → SecondFault before c f → ⊥
    none f (second_fault h) = absurd (cc)
second_picks before c true e = picks_as (λ f. f ≡ redeclared c.place (twice_constructor c.name)) (SecondFault before c) (Some (redeclared c.place (twice_constructor c.name))) there back (alone (redeclared c.place (twice_constructor c.name)))
  where
    there : (f : Fault) → f ≡ redeclared c.place (twice_constructor c.name) → SecondFault before c f
    there f h = subst (SecondFault before c) (sym h) (second_fault e)

    back : (f : Fault) → SecondFault before c f → f ≡ redeclared c.place (twice_constructor c.name)
    back f (second_fault h) = refl

    alone : (g : Fault) → Picks (λ f. f ≡ g) (Some g)
    alone g = (refl, λ f h k. (picks_just g).1 g just (subst (λ (z : Fault). Earlier (at z) (at g)) h k))

constructor_picks : (G : Sc) (before : List Cd) (c : Cd) → Picks (Or (HeldFault G c) (SecondFault before c)) (of_constructor G before c).own
constructor_picks G before c =
    picks_two (HeldFault G c) (SecondFault before c) (held_told G c.place c.holds) (second_told c.place c.name (is_named c.name before))
    (held_picks G c c.holds refl) (second_picks before c (is_named c.name before) refl)

-- one and those behind it
split_constructors : (G : Sc) (before cs : List Cd) (c : Cd) (f : Fault) → ConstructorsFault G before (c ∷ cs) f → Or (Or (HeldFault G c) (SecondFault before c)) (ConstructorsFault G (before ++ c ∷ []) cs) f
split_constructors G before cs c f (this_constructor x) = or_first x
split_constructors G before cs c f (later_constructor x) = or_second x

join_constructors : (G : Sc) (before cs : List Cd) (c : Cd) (f : Fault) → Or (Or (HeldFault G c) (SecondFault before c)) (ConstructorsFault G (before ++ c ∷ []) cs) f → ConstructorsFault G before (c ∷ cs) f
join_constructors G before cs c f (or_first x) = this_constructor x
join_constructors G before cs c f (or_second x) = later_constructor x

-- constructors behind what was told before them
constructors_pick : (G : Sc) (P : Fault → Type 0) (before : List Cd) (r : Ls) (cs : List Cd) → Picks P r.own → Picks (Or P (ConstructorsFault G before cs)) (constructors_found G before r cs).own
constructors_pick G P before r [] h = picks_as P (Or P (ConstructorsFault G before [])) r.own (λ f x. or_first x) back h
  where
    back : (f : Fault) → Or P (ConstructorsFault G before []) f → P f
    back f (or_first x) = x
    back f (or_second x) = elim x [ ]
constructors_pick G P before r (c ∷ cs) h =
    picks_rest P (Or (HeldFault G c) (SecondFault before c)) (ConstructorsFault G (before ++ c ∷ []) cs) (ConstructorsFault G before (c ∷ cs))
    (constructors_found G before r (c ∷ cs)).own (join_constructors G before cs c) (split_constructors G before cs c)
    (constructors_pick G (Or P (Or (HeldFault G c) (SecondFault before c))) (before ++ c ∷ []) (and_then_found r (of_constructor G before c)) cs
    (picks_two P (Or (HeldFault G c) (SecondFault before c)) r.own (of_constructor G before c).own h (constructor_picks G before c)))

-- no term stands in them
no_kid : (G : Sc) (before : List Cd) (r : Ls) (cs : List Cd) → r.kids ≡ None → (constructors_found G before r cs).kids ≡ None
no_kid G before r [] h = h
no_kid G before r (c ∷ cs) h = no_kid G (before ++ c ∷ []) (and_then_found r (of_constructor G before c)) cs (ap (λ k. first k None) h)

-- what is at fault in a datatype: what is held
held_in : (G : Sc) (before cs : List Cd) (c : Cd) (f : Fault) → Contains cs c → HeldFault G c f → ConstructorsFault G before cs f
held_in G before [] c f (k, l, e) h = absurd (omega (arith, l))
held_in G before (b ∷ cs) c f (zero, l, e) h = this_constructor (or_first (subst (λ (z : Cd). HeldFault G z f) (sym e) h))
held_in G before (b ∷ cs) c f (suc k, l, e) h = later_constructor (held_in G (before ++ b ∷ []) cs c f (k, omega (arith, l), e) h)

-- and a name that stands before
named_if : (x y : ℕ) (b : Bool) → y ≡ x → (if y == x then true else b) ≡ true
named_if x y b e = ap (λ z. if z then true else b) (eq-eqb y x e)

named_later : (x y : ℕ) (b : Bool) → b ≡ true → (if y == x then true else b) ≡ true
named_later x y true e = by_test (y == x)
  where
    by_test : (z : Bool) → (if z then true else true) ≡ true
    by_test true = refl
    by_test false = refl
named_later x y false e = absurd (cc)

is_before : (x : ℕ) (cs : List Cd) (i j : ℕ) (b : Cd) → slice_get cs i ≡ Some b → i < j → b.name ≡ x → is_named x (take j cs) ≡ true
is_before x [] i j b g l e = absurd (cc)
is_before x (c ∷ cs) i zero b g l e = absurd (omega (arith, l))
is_before x (c ∷ cs) zero (suc j) b g l e = named_if x c.name (is_named x (take j cs)) (let k : c ≡ b = cc in ap (λ (z : Cd). z.name) k ∙ e)
is_before x (c ∷ cs) (suc i) (suc j) b g l e = named_later x c.name (is_named x (take j cs)) (is_before x cs i j b g (omega (arith, l)) e)

-- a constructor of a name before a place
record Before (x : ℕ) (cs : List Cd) (j : ℕ) : Type 0 where
  place : ℕ
  one : Cd
  there : slice_get cs place ≡ Some one
  below : place < j
  same : one.name ≡ x

one_further : (x : ℕ) (c : Cd) (cs : List Cd) (j : ℕ) → Before x cs j → Before x (c ∷ cs) (suc j)
one_further x c cs j b = record { place = suc b.place; one = b.one; there = b.there; below = let l = b.below in omega (arith, l); same = b.same }

stands_before : (x : ℕ) (cs : List Cd) (j : ℕ) → is_named x (take j cs) ≡ true → Before x cs j
stands_before x [] zero h = absurd (cc)
stands_before x [] (suc j) h = absurd (cc)
stands_before x (c ∷ cs) zero h = absurd (cc)
stands_before x (c ∷ cs) (suc j) h = by_test (c.name == x) refl h (λ k. stands_before x cs j k)
  where
    by_test : (z : Bool) → (c.name == x) ≡ z → (if z then true else is_named x (take j cs)) ≡ true → (is_named x (take j cs) ≡ true → Before x cs j) → Before x (c ∷ cs) (suc j)
    by_test true e k f = record { place = 0; one = c; there = refl; below = omega arith; same = eqb-true c.name x e }
    by_test false e k f = one_further x c cs j (f k)

second_in : (G : Sc) (before cs : List Cd) (j : ℕ) (c : Cd) → slice_get cs j ≡ Some c → is_named c.name (before ++ take j cs) ≡ true → ConstructorsFault G before cs (redeclared c.place (twice_constructor c.name))
second_in G before [] j c g h = absurd (cc)
second_in G before (b ∷ cs) zero c g h =
    let k : b ≡ c = cc in
    this_constructor (or_second (subst (λ (z : Cd). SecondFault before z (redeclared c.place (twice_constructor c.name))) (sym k)
    (second_fault (ap (is_named c.name) (sym (append-nil before)) ∙ h))))
second_in G before (b ∷ cs) (suc j) c g h =
    later_constructor (second_in G (before ++ b ∷ []) cs j c g (ap (is_named c.name) (append_assoc before (b ∷ []) (take j cs)) ∙ h))

-- which of them is at fault
data AtFault (G : Sc) (before cs : List Cd) : Fault → Type 0 where
  what_is_held : {c : Cd} {f : Fault}
      → Contains cs c
      → HeldFault G c f
      → AtFault G before cs f
  a_second : {c : Cd} (j : ℕ)
      → slice_get cs j ≡ Some c
      → is_named c.name (before ++ take j cs) ≡ true
      → AtFault G before cs (redeclared c.place (twice_constructor c.name))

further : (G : Sc) (before cs : List Cd) (b : Cd) (f : Fault) → AtFault G (before ++ b ∷ []) cs f → AtFault G before (b ∷ cs) f
further G before cs b f (what_is_held {c = c} (k, l, e) h) = what_is_held {c = c} (suc k, omega (arith, l), e) h
further G before cs b f (a_second {c = c} j g h) = a_second {c = c} (suc j) g (ap (is_named c.name) (sym (append_assoc before (b ∷ []) (take j cs))) ∙ h)

is_at_fault : (G : Sc) (before cs : List Cd) (f : Fault) → ConstructorsFault G before cs f → AtFault G before cs f
is_at_fault G before [] f x = elim x [ ]
is_at_fault G before (c ∷ cs) f (this_constructor (or_first x)) = what_is_held {c = c} (0, omega arith, refl) x
is_at_fault G before (c ∷ cs) f (this_constructor (or_second (second_fault h))) = a_second {c = c} 0 refl (ap (is_named c.name) (append-nil before) ∙ h)
is_at_fault G before (c ∷ cs) f (later_constructor x) = further G before cs c f (is_at_fault G (before ++ c ∷ []) cs f x)

-- what a datatype has at fault itself
abbrev pub scope_in : Pg → List Cn → List Dt → Dt → Sc
scope_in p tops ds d = under_types d.parameters (scope_with p tops (ds ++ d ∷ []))

datatype_own : (p : Pg) (tops : List Cn) (ds : List Dt) (d : Dt) (f : Fault) → ConstructorsFault (scope_in p tops ds d) [] d.constructors f → DeclOwn p tops ds (datatype d) f
datatype_own p tops ds d f x = by_fault f (is_at_fault (scope_in p tops ds d) [] d.constructors f x)
  where
    by_fault : (f : Fault) → AtFault (scope_in p tops ds d) [] d.constructors f → DeclOwn p tops ds (datatype d) f
    by_fault f (what_is_held i (held_fault e k)) = held_kind i e k
    by_fault f (a_second {c = c} j g h) = let b = stands_before c.name d.constructors j h in same_constructor b.there g b.below b.same

own_of_datatype : (p : Pg) (tops : List Cn) (ds : List Dt) (d : Dt) (f : Fault) → DeclOwn p tops ds (datatype d) f → ConstructorsFault (scope_in p tops ds d) [] d.constructors f
own_of_datatype p tops ds d f (held_kind {c = c} i e k) = held_in (scope_in p tops ds d) [] d.constructors c f i (held_fault e k)
own_of_datatype p tops ds d f (same_constructor {i = i} {j = j} {b = b} {c = c} g h l e) =
    second_in (scope_in p tops ds d) [] d.constructors j c h (is_before c.name d.constructors i j b g l e)

pub datatype_picks : (p : Pg) (tops : List Cn) (ds : List Dt) (d : Dt) → Picks (DeclOwn p tops ds (datatype d)) (constructors_found (scope_in p tops ds d) [] none_yet d.constructors).own
datatype_picks p tops ds d =
    picks_as (ConstructorsFault (scope_in p tops ds d) [] d.constructors) (DeclOwn p tops ds (datatype d))
    (constructors_found (scope_in p tops ds d) [] none_yet d.constructors).own (datatype_own p tops ds d) (own_of_datatype p tops ds d)
    (picks_start (ConstructorsFault (scope_in p tops ds d) [] d.constructors) (constructors_found (scope_in p tops ds d) [] none_yet d.constructors).own
    (constructors_pick (scope_in p tops ds d) Never [] none_yet d.constructors picks_never))

no_term : (p : Pg) (tops : List Cn) (ds : List Dt) (d : Dt) (G : Sc) (e : Ex) → DeclSub p tops ds (datatype d) G e → ⊥
no_term p tops ds d G e x = elim x [ ]

pub datatype_least : (p : Pg) (tops : List Cn) (ds : List Dt) (d : Dt) → Least (DeclSub p tops ds (datatype d)) (constructors_found (scope_in p tops ds d) [] none_yet d.constructors).kids
datatype_least p tops ds d =
    subst (Least (DeclSub p tops ds (datatype d))) (sym (no_kid (scope_in p tops ds d) [] none_yet d.constructors refl))
    (λ H c g s x. no_term p tops ds d H c s)
