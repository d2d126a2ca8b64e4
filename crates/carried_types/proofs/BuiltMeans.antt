-- What is computed to be built of what links carry is so, and what is computed not to be isn't.
use Rattle.std.proofs.Common.{◌≡◌, ℕ, zero, suc, ◌-◌, ◌<◌, Bool, true, false, List, [], ◌∷◌, map, Option, Some, None, if◌then◌else◌, refl, ap, sym, ◌∙◌, subst, arith, ltb}
use Rattle.std.specs.List.{Contains}
use Rattle.std.proofs.lemmas.Bool.{ltb-true, lt-ltb}
use Rattle.std.proofs.lemmas.Option.{same_Some}
use Rattle.con_terms.specs.Trees.{Cn, var, basic, arrow, poly, guarded, record_of, app, lambda, unit_con, name, row, cat, map_of, tuple, proj, Kd, types, Prs, no_pairs, pair}
use Rattle.con_terms.specs.Same.{kd_eq}
use Rattle.con_terms.proofs.SameKinds.{kd_eq_same, kd_eq_refl}
use Rattle.core_terms.specs.Trees.{Dt}
use Rattle.core_terms.specs.Types.{type_row}
use Rattle.core_typing.specs.Scopes.{normal_of}
use Rattle.core_typing.specs.Seen.{Seen, a_number, a_text, a_datatype, a_record, nothing_more, seen}
use Rattle.core_typing.specs.Carried.{CarriedBy, as_int, as_string, as_record, as_datatype, as_parameter, FieldsCarried, no_fields_are, a_field_is, AllCarried, none_are, one_is}
use Rattle.carried_types.specs.Built.{is_carrier, both, all_by, is_name, field_by, fields_by, row_by, seen_by, normal_by, type_by, built}
use Rattle.carried_types.proofs.Both.{both_yes, both_no}

-- one level, where there is room
pub built_step : (room : ℕ) (ds : List Dt) (bs : List Bool) (k : ℕ) (t : Cn) → 0 < room →
    built room ds bs k t ≡ type_by (built (room - 1) ds bs k) ds bs k (normal_of t)
unfolding built
built_step zero ds bs k t h = absurd (omega arith)
built_step (suc r) ds bs k t h = ap (λ n. type_by (built n ds bs k) ds bs k (normal_of t)) (let p : r ≡ suc r - 1 = omega arith in p)

built_none : (ds : List Dt) (bs : List Bool) (k : ℕ) (t : Cn) (b : Bool) → built zero ds bs k t ≡ Some b → ⊥
unfolding built
built_none ds bs k t b h = cc

pub built_more : (r : ℕ) (ds : List Dt) (bs : List Bool) (k : ℕ) (t : Cn) → built (suc r) ds bs k t ≡ type_by (built r ds bs k) ds bs k (normal_of t)
unfolding built
built_more r ds bs k t = refl

-- a name
pub name_is : (n : Cn) → is_name n ≡ true → (x : ℕ) × (n ≡ name x)
name_is (name x) h = (x, refl)
name_is _ h = absurd (cc)

if_yes : (b : Bool) (o : Option Bool) → (if b then o else Some false) ≡ Some true → (b ≡ true) × (o ≡ Some true)
if_yes true o h = (refl, h)
if_yes false o h = absurd (cc)

-- yes
abbrev Yes : List Dt → List ℕ → ℕ → (Cn → Option Bool) → Type 0
Yes ds S k f = (t : Cn) → f t ≡ Some true → CarriedBy ds S k t

all_yes : (ds : List Dt) (S : List ℕ) (k : ℕ) (f : Cn → Option Bool) → Yes ds S k f → (ts : List Cn) → all_by f ts ≡ Some true → AllCarried ds S k ts
all_yes ds S k f y [] h = none_are
all_yes ds S k f y (t ∷ ts) h = let (p, q) = both_yes (f t) (all_by f ts) h in one_is (y t p) (all_yes ds S k f y ts q)

fields_yes : (ds : List Dt) (S : List ℕ) (k : ℕ) (f : Cn → Option Bool) → Yes ds S k f → (ps : Prs) → fields_by f ps ≡ Some true → FieldsCarried ds S k ps
fields_yes ds S k f y no_pairs h = no_fields_are
fields_yes ds S k f y (pair n t ps) h =
    let (p, q) = both_yes (field_by f n t) (fields_by f ps) h in
    let (named, r) = if_yes (is_name n) (f t) p in
    let (x, e) = name_is n named in
    subst (λ (m : Cn). FieldsCarried ds S k (pair m t ps)) (sym e) (a_field_is (y t r) (fields_yes ds S k f y ps q))

row_yes : (ds : List Dt) (S : List ℕ) (k : ℕ) (f : Cn → Option Bool) → Yes ds S k f → (t r : Cn) → normal_of t ≡ Some (record_of r) → row_by f r ≡ Some true → CarriedBy ds S k t
row_yes ds S k f y t (row l ps) e h =
    let (same, q) = if_yes (kd_eq l types) (fields_by f ps) h in
    as_record (e ∙ ap (λ (m : Kd). Some (record_of (row m ps))) (kd_eq_same l types same)) (fields_yes ds S k f y ps q)
row_yes ds S k f y t _ e h = absurd (cc)

seen_yes : (ds : List Dt) (bs : List Bool) (S : List ℕ) (k : ℕ) (f : Cn → Option Bool) → Yes ds S k f →
    ((s : ℕ) → is_carrier ds bs s ≡ true → Contains S s) → (t n : Cn) → normal_of t ≡ Some n →
    (w : Seen) → seen ds n ≡ w → seen_by f ds bs w ≡ Some true → CarriedBy ds S k t
seen_yes ds bs S k f y incl t n e a_number s h = as_int e s
seen_yes ds bs S k f y incl t n e a_text s h = as_string e s
seen_yes ds bs S k f y incl t n e (a_datatype d args) s h =
    let (c, q) = if_yes (is_carrier ds bs d.symbol) (all_by f args) h in
    as_datatype e s (incl d.symbol c) (all_yes ds S k f y args q)
seen_yes ds bs S k f y incl t n e (a_record fs) s h = absurd (cc)
seen_yes ds bs S k f y incl t n e nothing_more s h = absurd (cc)

normal_yes : (ds : List Dt) (bs : List Bool) (S : List ℕ) (k : ℕ) (f : Cn → Option Bool) → Yes ds S k f →
    ((s : ℕ) → is_carrier ds bs s ≡ true → Contains S s) → (t n : Cn) → normal_of t ≡ Some n →
    normal_by f ds bs k n ≡ Some true → CarriedBy ds S k t
normal_yes ds bs S k f y incl t (var i) e h = as_parameter e (ltb-true i k (same_Some (ltb i k) true h))
normal_yes ds bs S k f y incl t (record_of r) e h = row_yes ds S k f y t r e h
normal_yes ds bs S k f y incl t n e h = seen_yes ds bs S k f y incl t n e (seen ds n) refl h

type_yes : (ds : List Dt) (bs : List Bool) (S : List ℕ) (k : ℕ) (f : Cn → Option Bool) → Yes ds S k f →
    ((s : ℕ) → is_carrier ds bs s ≡ true → Contains S s) → (t : Cn) (o : Option Cn) → normal_of t ≡ o →
    type_by f ds bs k o ≡ Some true → CarriedBy ds S k t
type_yes ds bs S k f y incl t None e h = absurd (cc)
type_yes ds bs S k f y incl t (Some n) e h = normal_yes ds bs S k f y incl t n e h

pub built_yes : (ds : List Dt) (bs : List Bool) (S : List ℕ) (k : ℕ) → ((s : ℕ) → is_carrier ds bs s ≡ true → Contains S s) →
    (room : ℕ) (t : Cn) → built room ds bs k t ≡ Some true → CarriedBy ds S k t
built_yes ds bs S k incl zero t h = absurd (built_none ds bs k t true h)
built_yes ds bs S k incl (suc r) t h =
    type_yes ds bs S k (built r ds bs k) (built_yes ds bs S k incl r) incl t (normal_of t) refl (sym (built_more r ds bs k t) ∙ h)

-- no
abbrev No : List Dt → List ℕ → ℕ → (Cn → Option Bool) → Type 0
No ds S k f = (t : Cn) → f t ≡ Some false → CarriedBy ds S k t → ⊥

all_no : (ds : List Dt) (S : List ℕ) (k : ℕ) (f : Cn → Option Bool) → No ds S k f → (ts : List Cn) → all_by f ts ≡ Some false → AllCarried ds S k ts → ⊥
all_no ds S k f y [] h c = cc
all_no ds S k f y (t ∷ ts) h (one_is c cs) = both_no ⊥ (f t) (all_by f ts) h (λ p. y t p c) (λ q. all_no ds S k f y ts q cs)

fields_no : (ds : List Dt) (S : List ℕ) (k : ℕ) (f : Cn → Option Bool) → No ds S k f → (ps : Prs) → fields_by f ps ≡ Some false → FieldsCarried ds S k ps → ⊥
fields_no ds S k f y no_pairs h c = cc
fields_no ds S k f y (pair (name x) t ps) h (a_field_is c cs) =
    both_no ⊥ (f t) (fields_by f ps) h (λ p. y t p c) (λ q. fields_no ds S k f y ps q cs)
fields_no ds S k f y (pair _ t ps) h c = elim c [ ]

-- a type that tells what it is of, is seen so
told_by : (f : Cn → Option Bool) (ds : List Dt) (bs : List Bool) (k : ℕ) (n : Cn) (w : Seen) → seen ds n ≡ w → ((fs : List (Cn × Cn)) → w ≡ a_record fs → ⊥) → (w ≡ nothing_more → ⊥) →
    normal_by f ds bs k n ≡ seen_by f ds bs w
told_by f ds bs k (var i) w e r x = absurd (x (sym e))
told_by f ds bs k (record_of r) w e x y = absurd (x _ (sym e))
told_by f ds bs k n w e x y = ap (seen_by f ds bs) e

type_no : (ds : List Dt) (bs : List Bool) (S : List ℕ) (k : ℕ) (f : Cn → Option Bool) → No ds S k f →
    ((s : ℕ) → Contains S s → is_carrier ds bs s ≡ true) → (t : Cn) →
    type_by f ds bs k (normal_of t) ≡ Some false → CarriedBy ds S k t → ⊥
type_no ds bs S k f y incl t h (as_int {n = n} e s) =
    let a = sym (ap (type_by f ds bs k) e) ∙ h in
    let b = told_by f ds bs k n a_number s (λ fs z. cc) (λ z. cc) in
    cc
type_no ds bs S k f y incl t h (as_string {n = n} e s) =
    let a = sym (ap (type_by f ds bs k) e) ∙ h in
    let b = told_by f ds bs k n a_text s (λ fs z. cc) (λ z. cc) in
    cc
type_no ds bs S k f y incl t h (as_record {ps = ps} e c) =
    let a = sym (ap (type_by f ds bs k) e) ∙ h in
    fields_no ds S k f y ps a c
type_no ds bs S k f y incl t h (as_datatype {n = n} {d = d} {args = args} e s m c) =
    let a = sym (ap (type_by f ds bs k) e) ∙ h in
    let b = told_by f ds bs k n (a_datatype d args) s (λ fs z. cc) (λ z. cc) in
    let g = ap (λ (z : Bool). if z then all_by f args else Some false) (incl d.symbol m) in
    all_no ds S k f y args (sym g ∙ sym b ∙ a) c
type_no ds bs S k f y incl t h (as_parameter {i = i} e l) =
    let a = sym (ap (type_by f ds bs k) e) ∙ h in
    let b = lt-ltb i k l in
    cc

pub built_no : (ds : List Dt) (bs : List Bool) (S : List ℕ) (k : ℕ) → ((s : ℕ) → Contains S s → is_carrier ds bs s ≡ true) →
    (room : ℕ) (t : Cn) → built room ds bs k t ≡ Some false → CarriedBy ds S k t → ⊥
built_no ds bs S k incl zero t h = λ _. built_none ds bs k t false h
built_no ds bs S k incl (suc r) t h =
    type_no ds bs S k (built r ds bs k) (built_no ds bs S k incl r) incl t (sym (built_more r ds bs k t) ∙ h)
