-- Values that are declared, alone or together: whether they are found, what is told of their terms, and what of
-- themselves, from the verdicts of their terms.
use Rattle.std.proofs.Common.{ℕ, Bool, List, [], ◌∷◌, ◌++◌}
use Rattle.con_terms.specs.Trees.{types, Cn}
use Rattle.con_terms.specs.declared.place.Place.{Place}
use Rattle.kind_rules.specs.Kinding.{judged_at}
use Rattle.core_terms.specs.Trees.{Ex, Nms, no_named, named, Dt, Pg, val, vals}
use Rattle.core_typing.specs.Scopes.{Sc}
use Rattle.core_typing.specs.Asks.{no_cover}
use Rattle.core_typing.specs.Declarations.{value_types, named_values, scope_with}
use Rattle.core_typing.specs.Faults.{Fault}
use Rattle.core_typing.specs.Found.{NamedFound, no_name_found, name_found}
use Rattle.core_typing.specs.Own.{NamedFault, name_kind, name_type, later_name, place_of, type_place}
use Rattle.core_typing.specs.Tells.{InNamed, this_name, past_name, DeclOwn, type_kind, other_type, in_named, DeclSub, of_val, of_vals}
use Rattle.told_faults.specs.Computed.{Jd}
use Rattle.told_faults.specs.Told.{Verdict, Nodes, Or, or_first, or_second, Either, in_first, in_second, Only, only, Nowhere, Never}
use Rattle.node_rules.specs.Locals.{Ls, none_yet, of_declared, with_declared}
use Rattle.judged_terms.specs.Listed.{named_found}
use Rattle.told_terms.proofs.Wanted.{NamesTold, Here, here_is}
use Rattle.told_terms.proofs.Declared.{StateIs, state_as, state_rest, state_start, state_two, none_state, IsDeclared, DeclaredFault, of_kind, of_type, declared_state}

-- one more declaration, behind those before it: its type stands at p and its term at q; its type is of the scope G,
-- its term of H
pub value_declares : (F : Type 0) (N : Nodes) (P : Fault → Type 0) (G H : Sc) (p q : Place) (t : Cn) (e : Ex) (j : Jd) (r : Ls) → StateIs F N P r → Verdict H e j → StateIs (F × IsDeclared G H t e) (Either N (Only H e)) (Or P (DeclaredFault G H p q t e)) (with_declared G p q t j r)
value_declares F N P G H p q t e j r s v =
    state_two F (IsDeclared G H t e) N (Only H e) P (DeclaredFault G H p q t e) r (of_declared G p q t (judged_at G.kinds t types) j) s
    (declared_state G H p q t e j v)

-- or the first
pub value_alone : (G H : Sc) (p q : Place) (t : Cn) (e : Ex) (j : Jd) → Verdict H e j → StateIs (IsDeclared G H t e) (Only H e) (DeclaredFault G H p q t e) (with_declared G p q t j none_yet)
value_alone G H p q t e j v = declared_state G H p q t e j v

-- names that are declared together: none
no_names : (F : Type 0) (N : Nodes) (P : Fault → Type 0) (G H : Sc) (r : Ls) → StateIs F N P r → StateIs (F × NamedFound no_cover G H no_named) (Either N (Here H (InNamed no_named))) (Or P (NamedFault G H no_named)) r
no_names F N P G H r s =
    state_as F (F × NamedFound no_cover G H no_named) N (Either N (Here H (InNamed no_named))) P (Or P (NamedFault G H no_named)) r
    (λ x. (x, no_name_found)) (λ x. x.0) (λ K c x. in_first x) node_back (λ f x. or_first x) fault_back s
  where
    node_back : (K : Sc) (c : Ex) → Either N (Here H (InNamed no_named)) K c → N K c
    node_back K c (in_first x) = x
    node_back K c (in_second (here_is x)) = elim x [ ]

    fault_back : (f : Fault) → Or P (NamedFault G H no_named) f → P f
    fault_back f (or_first x) = x
    fault_back f (or_second x) = elim x [ ]

-- and one before others
name_declared : {G H : Sc} {p : Place} {x : ℕ} {w : Bool} {t : Cn} {e : Ex} {ns : Nms} → NamedFound no_cover G H (named p x w t e ns) → IsDeclared G H t e
name_declared (name_found {u = u} k h a n) = record { kind = k; given = u; found = h; same = a }

later_found : {G H : Sc} {p : Place} {x : ℕ} {w : Bool} {t : Cn} {e : Ex} {ns : Nms} → NamedFound no_cover G H (named p x w t e ns) → NamedFound no_cover G H ns
later_found (name_found k h a n) = n

one_name : (F : Type 0) (N : Nodes) (P : Fault → Type 0) (G H : Sc) (p : Place) (x : ℕ) (w : Bool) (t : Cn) (e : Ex) (ns : Nms) (r : Ls) → StateIs ((F × IsDeclared G H t e) × NamedFound no_cover G H ns) (Either (Either N (Only H e)) (Here H (InNamed ns))) (Or (Or P (DeclaredFault G H (type_place w p e) (place_of e) t e)) (NamedFault G H ns)) r → StateIs (F × NamedFound no_cover G H (named p x w t e ns)) (Either N (Here H (InNamed (named p x w t e ns)))) (Or P (NamedFault G H (named p x w t e ns))) r
one_name F N P G H p x w t e ns r s =
    state_rest F (IsDeclared G H t e) (NamedFound no_cover G H ns) (NamedFound no_cover G H (named p x w t e ns))
    N (Only H e) (Here H (InNamed ns)) (Here H (InNamed (named p x w t e ns)))
    P (DeclaredFault G H (type_place w p e) (place_of e) t e) (NamedFault G H ns) (NamedFault G H (named p x w t e ns)) r
    (λ d n. name_found d.kind d.found d.same n) name_declared later_found node_there node_back fault_there fault_back s
  where
    node_there : (K : Sc) (c : Ex) → Either (Only H e) (Here H (InNamed ns)) K c → Here H (InNamed (named p x w t e ns)) K c
    node_there K c (in_first only) = here_is this_name
    node_there K c (in_second (here_is y)) = here_is (past_name y)

    node_back : (K : Sc) (c : Ex) → Here H (InNamed (named p x w t e ns)) K c → Either (Only H e) (Here H (InNamed ns)) K c
    node_back K c (here_is this_name) = in_first only
    node_back K c (here_is (past_name y)) = in_second (here_is y)

    fault_there : (f : Fault) → Or (DeclaredFault G H (type_place w p e) (place_of e) t e) (NamedFault G H ns) f → NamedFault G H (named p x w t e ns) f
    fault_there f (or_first (of_kind y)) = name_kind y
    fault_there f (or_first (of_type k y z)) = name_type k y z
    fault_there f (or_second y) = later_name y

    fault_back : (f : Fault) → NamedFault G H (named p x w t e ns) f → Or (DeclaredFault G H (type_place w p e) (place_of e) t e) (NamedFault G H ns) f
    fault_back f (name_kind y) = or_first (of_kind y)
    fault_back f (name_type k y z) = or_first (of_type k y z)
    fault_back f (later_name y) = or_second y

-- names that are declared together, behind declarations before them: their types are of the scope G, their terms of H
pub names_declare : (F : Type 0) (N : Nodes) (P : Fault → Type 0) (G H : Sc) (ns : Nms) (js : List Jd) (r : Ls) → StateIs F N P r → NamesTold H ns js → StateIs (F × NamedFound no_cover G H ns) (Either N (Here H (InNamed ns))) (Or P (NamedFault G H ns)) (named_found G ns js r)
names_declare F N P G H no_named (j ∷ js) r s h = absurd h
names_declare F N P G H no_named [] r s h = no_names F N P G H r s
names_declare F N P G H (named p x w t e ns) [] r s h = absurd h
names_declare F N P G H (named p x w t e ns) (j ∷ js) r s (v, h) =
    let q = with_declared G (type_place w p e) (place_of e) t j r in
    one_name F N P G H p x w t e ns (named_found G ns js q)
    (names_declare (F × IsDeclared G H t e) (Either N (Only H e)) (Or P (DeclaredFault G H (type_place w p e) (place_of e) t e)) G H ns js q
    (value_declares F N P G H (type_place w p e) (place_of e) t e j r s v) h)

-- or the first
pub names_alone : (G H : Sc) (ns : Nms) (js : List Jd) → NamesTold H ns js → StateIs (NamedFound no_cover G H ns) (Here H (InNamed ns)) (NamedFault G H ns) (named_found G ns js none_yet)
names_alone G H ns js h =
    state_start (NamedFound no_cover G H ns) (Here H (InNamed ns)) (NamedFault G H ns) (named_found G ns js none_yet)
    (names_declare (Unit {0}) Nowhere Never G H ns js none_yet none_state h)

-- val x : t = e, of a program
pub val_declares : (p : Pg) (tops : List Cn) (ds : List Dt) (path : List ℕ) (q : Place) (x : ℕ) (w : Bool) (t : Cn) (e : Ex) (j : Jd) → Verdict (scope_with p tops ds) e j → StateIs (IsDeclared (scope_with p tops ds) (scope_with p tops ds) t e) (DeclSub p tops ds (val path q x w t e)) (DeclOwn p tops ds (val path q x w t e)) (with_declared (scope_with p tops ds) (type_place w q e) (place_of e) t j none_yet)
val_declares p tops ds path q x w t e j v =
    let G = scope_with p tops ds in
    state_as (IsDeclared G G t e) (IsDeclared G G t e) (Only G e) (DeclSub p tops ds (val path q x w t e)) (DeclaredFault G G (type_place w q e) (place_of e) t e) (DeclOwn p tops ds (val path q x w t e)) (with_declared G (type_place w q e) (place_of e) t j none_yet)
    (λ y. y) (λ y. y) node_there node_back fault_there fault_back (value_alone G G (type_place w q e) (place_of e) t e j v)
  where
    node_there : (K : Sc) (c : Ex) → Only (scope_with p tops ds) e K c → DeclSub p tops ds (val path q x w t e) K c
    node_there K c only = of_val

    node_back : (K : Sc) (c : Ex) → DeclSub p tops ds (val path q x w t e) K c → Only (scope_with p tops ds) e K c
    node_back K c of_val = only

    fault_there : (f : Fault) → DeclaredFault (scope_with p tops ds) (scope_with p tops ds) (type_place w q e) (place_of e) t e f → DeclOwn p tops ds (val path q x w t e) f
    fault_there f (of_kind y) = type_kind y
    fault_there f (of_type k y z) = other_type k y z

    fault_back : (f : Fault) → DeclOwn p tops ds (val path q x w t e) f → DeclaredFault (scope_with p tops ds) (scope_with p tops ds) (type_place w q e) (place_of e) t e f
    fault_back f (type_kind y) = of_kind y
    fault_back f (other_type k y z) = of_type k y z

-- val rec x : t = e and .., of a program
pub vals_declare : (p : Pg) (tops : List Cn) (ds : List Dt) (path : List ℕ) (ns : Nms) (js : List Jd) → NamesTold (scope_with p (tops ++ value_types (named_values path ns)) ds) ns js → StateIs (NamedFound no_cover (scope_with p tops ds) (scope_with p (tops ++ value_types (named_values path ns)) ds) ns) (DeclSub p tops ds (vals path ns)) (DeclOwn p tops ds (vals path ns)) (named_found (scope_with p tops ds) ns js none_yet)
vals_declare p tops ds path ns js h =
    let G = scope_with p tops ds in
    let H = scope_with p (tops ++ value_types (named_values path ns)) ds in
    state_as (NamedFound no_cover G H ns) (NamedFound no_cover G H ns) (Here H (InNamed ns)) (DeclSub p tops ds (vals path ns)) (NamedFault G H ns) (DeclOwn p tops ds (vals path ns)) (named_found G ns js none_yet)
    (λ y. y) (λ y. y) node_there node_back (λ f y. in_named y) fault_back (names_alone G H ns js h)
  where
    node_there : (K : Sc) (c : Ex) → Here (scope_with p (tops ++ value_types (named_values path ns)) ds) (InNamed ns) K c → DeclSub p tops ds (vals path ns) K c
    node_there K c (here_is y) = of_vals y

    node_back : (K : Sc) (c : Ex) → DeclSub p tops ds (vals path ns) K c → Here (scope_with p (tops ++ value_types (named_values path ns)) ds) (InNamed ns) K c
    node_back K c (of_vals y) = here_is y

    fault_back : (f : Fault) → DeclOwn p tops ds (vals path ns) f → NamedFault (scope_with p tops ds) (scope_with p (tops ++ value_types (named_values path ns)) ds) ns f
    fault_back f (in_named y) = y
