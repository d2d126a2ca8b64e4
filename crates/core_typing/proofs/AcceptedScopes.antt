-- The scopes of an accepted program are grounded.
use Rattle.std.proofs.Common.{◌≡◌, ◌≢◌, ℕ, zero, suc, ◌+◌, Bool, true, false, ◌==◌, if◌then◌else◌, inl, inr, List, [], ◌∷◌, ◌++◌, map, Some, None, slice_get, refl, ap, sym, subst, ◌∙◌, arith, append_assoc, length}
use Rattle.std.specs.List.{Contains, All}
use Rattle.std.proofs.lemmas.List.{append-nil}
use Rattle.std.proofs.lemmas.List.Elements.{All-contains, All-nil, All-cons, Contains-append_left, Contains-append_right, Contains-append_cases}
use Rattle.std.proofs.lemmas.Bool.{eqb-true, eqb-false}
use Rattle.con_terms.specs.Trees.{Kd, Kds, types, row_of, to, Cn, Cns, Prs, var, basic, app, record_of, name, row, no_pairs, pair, names_of}
use Rattle.con_terms.specs.Substitution.{shift}
use Rattle.con_terms.specs.Equal.{same}
use Rattle.con_terms.specs.Apart.{Separated, names_differ, Apart, apart, PairwiseApart}
use Rattle.con_terms.specs.Kinded.{Scope, bind, assume, basic_kind, Kinded, of_var, of_basic, of_arrow, of_poly, of_guarded, of_record, of_app, of_lambda, of_unit, of_name, of_row, of_cat, of_map, of_tuple, of_proj, KindedAll, no_components, a_component, KindedPairs, no_fields, a_field}
use Rattle.core_terms.specs.Names.{bool_name, option_name, list_name, first_name, second_name, false_name, true_name, none_name, some_name, nil_name, cons_name}
use Rattle.core_terms.specs.Trees.{Nms, De, val, vals, con_is, datatype, Cd, Dt, Pg, arity, thing}
use Rattle.core_terms.specs.Types.{type_taking}
use Rattle.core_terms.specs.Datatypes.{basis_datatypes, constructor_of, datatype_of}
use Rattle.core_typing.specs.Scopes.{Sc, under_con, basis_kinds, datatype_kinds, folder_kinds}
use Rattle.core_typing.specs.Asks.{Asks, cover_asked}
use Rattle.core_typing.specs.Typed.{NamedTyped, no_name, each_name}
use Rattle.core_typing.specs.Declarations.{Value, values, named_values, value_types, datatypes, scope_with, under_types, HoldsTypes, Distinct, DeclsTyped, a_val, some_vals, a_con, a_datatype}
use Rattle.core_typing.specs.Accepts.{Accepts}
use Rattle.core_typing.specs.Grounded.{Grounded, HasTypes, at_top}
use Rattle.core_typing.proofs.TypeKinds.{AreTypes, none_are, more_are, both_are}
use Rattle.std.proofs.lemmas.List.{map-append}
use Rattle.disjoint_prover.proofs.Sound.{contains_head, contains_tail}
use Rattle.core_typing.proofs.Containing.{nothing_in, head_or, contains_map}
use Rattle.link_router.proofs.Sent.{listed_in as there_in}

-- every name of a list has one kind there
Unique : List (ℕ × Kd) → Type 0
Unique bs = (s : ℕ) (k l : Kd) → Contains bs (s, k) → Contains bs (s, l) → k ≡ l

named_in : (bs : List (ℕ × Kd)) (s : ℕ) (k : Kd) → Contains bs (s, k) → Contains (map (λ (b : ℕ × Kd). b.0) bs) s
named_in bs s k c = contains_map (λ (b : ℕ × Kd). b.0) bs (s, k) c

unique : (bs : List (ℕ × Kd)) → Distinct (map (λ (b : ℕ × Kd). b.0) bs) → (s : ℕ) (k l : Kd) → Contains bs (s, k) → Contains bs (s, l) → k ≡ l
unique [] d s k l c e = nothing_in (s, k) c
unique (b ∷ bs) d s k l c e =
    let other : (m : Kd) → b ≡ (s, m) → (o : Kd) → Contains bs (s, o) → k ≡ l =
    λ m h o i. absurd (All-contains (λ y. b.0 ≡ y → ⊥) (map (λ (x : ℕ × Kd). x.0) bs) s d.0 (named_in bs s o i) (ap (λ (x : ℕ × Kd). x.0) h)) in
    elim (head_or (s, k) b bs c) [
      | inl h ↦ elim (head_or (s, l) b bs e) [ inl g ↦ ap (λ (x : ℕ × Kd). x.1) (sym h ∙ g) | inr j ↦ other k h l j ]
      | inr i ↦ elim (head_or (s, l) b bs e) [ inl g ↦ other l g k i | inr j ↦ unique bs d.1 s k l i j ]
    ]

-- what is looked up is there
record Looked (bs : List (ℕ × Kd)) (s : ℕ) : Type 0 where
  kind : Kd
  looked : basic_kind bs s ≡ Some kind
  there : Contains bs (s, kind)

pair_is : (b : ℕ × Kd) (s : ℕ) → b.0 ≡ s → b ≡ (s, b.1)
pair_is (x, k) s e = ap (λ y. (y, k)) e

look : (b : ℕ × Kd) (bs : List (ℕ × Kd)) (s : ℕ) (t : Bool) → (b.0 == s) ≡ t → ((t ≡ false) → Looked bs s) → Looked (b ∷ bs) s
look b bs s true e next = record {
  kind = b.1;
  looked = ap (λ z. if z then Some b.1 else basic_kind bs s) e;
  there = subst (λ x. Contains (b ∷ bs) x) (pair_is b s (eqb-true b.0 s e)) (contains_head b bs);
}
look b bs s false e next =
    let l = next refl in
    record { kind = l.kind; looked = ap (λ z. if z then Some b.1 else basic_kind bs s) e ∙ l.looked; there = contains_tail (s, l.kind) b bs l.there }

look_up : (bs : List (ℕ × Kd)) (s : ℕ) (k : Kd) → Contains bs (s, k) → Looked bs s
look_up [] s k c = nothing_in (s, k) c
look_up (b ∷ bs) s k c = look b bs s (b.0 == s) refl (λ f. elim (head_or (s, k) b bs c) [
  | inl h ↦ absurd (different b s k h f)
  | inr i ↦ look_up bs s k i
])
  where
    different : (b : ℕ × Kd) (s : ℕ) (k : Kd) → b ≡ (s, k) → (b.0 == s) ≡ false → ⊥
    different b s k h f = eqb-false b.0 s f (ap (λ (x : ℕ × Kd). x.0) h)

-- what is there, each name once, is looked up
found_there : (bs : List (ℕ × Kd)) → Unique bs → (s : ℕ) (k : Kd) → Contains bs (s, k) → basic_kind bs s ≡ Some k
unfolding Unique
found_there bs u s k c = let l = look_up bs s k c in l.looked ∙ ap (λ x. Some x) (u s l.kind k l.there c)

-- and what is looked up is there
hit : (b : ℕ × Kd) (bs : List (ℕ × Kd)) (s : ℕ) (k : Kd) (t : Bool) → (b.0 == s) ≡ t → (basic_kind bs s ≡ Some k → Contains bs (s, k)) → (if t then Some b.1 else basic_kind bs s) ≡ Some k → Contains (b ∷ bs) (s, k)
hit b bs s k true e next h = let same : b.1 ≡ k = cc in subst (λ x. Contains (b ∷ bs) x) (pair_is b s (eqb-true b.0 s e) ∙ ap (λ y. (s, y)) same) (contains_head b bs)
hit b bs s k false e next h = contains_tail (s, k) b bs (next h)

there_of : (bs : List (ℕ × Kd)) (s : ℕ) (k : Kd) → basic_kind bs s ≡ Some k → Contains bs (s, k)
there_of [] s k h = cc
there_of (b ∷ bs) s k h = hit b bs s k (b.0 == s) refl (there_of bs s k) h

-- basic names and more
abbrev Keeps : List (ℕ × Kd) → List (ℕ × Kd) → Type 0
Keeps bs cs = (s : ℕ) (k : Kd) → basic_kind bs s ≡ Some k → basic_kind cs s ≡ Some k

-- the same scope with more basic names
record More (G H : Scope) : Type 0 where
  binders : H.binders ≡ G.binders
  guards : H.guards ≡ G.guards
  basics : Keeps G.basics H.basics

more_bind : {G H : Scope} (k : Kd) → More G H → More (bind k G) (bind k H)
more_bind k m = record { binders = ap (λ bs. k ∷ bs) m.binders; guards = ap (map (λ (g : Cn × Cn). (shift 1 g.0 0, shift 1 g.1 0))) m.guards; basics = m.basics }

more_assume : {G H : Scope} (a b : Cn) → More G H → More (assume a b G) (assume a b H)
more_assume a b m = record { binders = m.binders; guards = ap (λ gs. (a, b) ∷ gs) m.guards; basics = m.basics }

mutual
  kinded_more : {G H : Scope} {c : Cn} {k : Kd} → More G H → Kinded G c k → Kinded H c k
  kinded_more m (of_var {i = i} e) = of_var (ap (λ bs. slice_get bs i) m.binders ∙ e)
  kinded_more m (of_basic {s = s} {k = k} e) = of_basic (m.basics s k e)
  kinded_more m (of_arrow a b) = of_arrow (kinded_more m a) (kinded_more m b)
  kinded_more m (of_poly {k = k} b) = of_poly (kinded_more (more_bind k m) b)
  kinded_more m (of_guarded {a = a} {b = b} p q c) = of_guarded (kinded_more m p) (kinded_more m q) (kinded_more (more_assume a b m) c)
  kinded_more m (of_record a) = of_record (kinded_more m a)
  kinded_more m (of_app f a) = of_app (kinded_more m f) (kinded_more m a)
  kinded_more m (of_lambda {k = k} b) = of_lambda (kinded_more (more_bind k m) b)
  kinded_more m of_unit = of_unit
  kinded_more m of_name = of_name
  kinded_more m (of_row {ps = ps} p h) = of_row (fields_more m p) (subst (λ gs. PairwiseApart gs (names_of ps)) (sym m.guards) h)
  kinded_more m (of_cat {a = a} {b = b} p q h) = of_cat (kinded_more m p) (kinded_more m q) (subst (λ gs. Apart gs a b) (sym m.guards) h)
  kinded_more m of_map = of_map
  kinded_more m (of_tuple cs) = of_tuple (all_more m cs)
  kinded_more m (of_proj c e) = of_proj (kinded_more m c) e

  all_more : {G H : Scope} {cs : Cns} {ks : Kds} → More G H → KindedAll G cs ks → KindedAll H cs ks
  all_more m no_components = no_components
  all_more m (a_component c cs) = a_component (kinded_more m c) (all_more m cs)

  fields_more : {G H : Scope} {ps : Prs} {k : Kd} → More G H → KindedPairs G ps k → KindedPairs H ps k
  fields_more m no_fields = no_fields
  fields_more m (a_field x v ps) = a_field (kinded_more m x) (kinded_more m v) (fields_more m ps)

-- the basic names of a program where these datatypes are declared
abbrev names_at : Pg → List Dt → List (ℕ × Kd)
names_at p ds = basis_kinds ++ datatype_kinds (basis_datatypes ++ ds) ++ folder_kinds p.folders

kinds_of_both : (xs ys : List Dt) → datatype_kinds (xs ++ ys) ≡ datatype_kinds xs ++ datatype_kinds ys
kinds_of_both [] ys = refl
kinds_of_both (d ∷ xs) ys = ap (λ bs. (d.symbol, type_taking (arity d)) ∷ bs) (kinds_of_both xs ys)

in_both : (xs ys : List Dt) (b : ℕ × Kd) → Contains (datatype_kinds xs) b → Contains (datatype_kinds (xs ++ ys)) b
in_both xs ys b c = subst (λ bs. Contains bs b) (sym (kinds_of_both xs ys)) (Contains-append_left (datatype_kinds xs) (datatype_kinds ys) b c)

-- with more datatypes there are more names
names_grow : (p : Pg) (ds more : List Dt) (b : ℕ × Kd) → Contains (names_at p ds) b → Contains (names_at p (ds ++ more)) b
names_grow p ds more b c =
    let xs = datatype_kinds (basis_datatypes ++ ds) in
    let ys = datatype_kinds (basis_datatypes ++ (ds ++ more)) in
    let grown : Contains xs b → Contains ys b = λ i. in_both (basis_datatypes ++ ds) more b i in
    elim (Contains-append_cases basis_kinds (xs ++ folder_kinds p.folders) b c) [
      | inl i ↦ Contains-append_left basis_kinds (ys ++ folder_kinds p.folders) b i
      | inr i ↦ Contains-append_right basis_kinds (ys ++ folder_kinds p.folders) b (elim (Contains-append_cases xs (folder_kinds p.folders) b i) [
        | inl j ↦ Contains-append_left ys (folder_kinds p.folders) b (grown j)
        | inr j ↦ Contains-append_right ys (folder_kinds p.folders) b j
      ])
    ]

fewer_unique : (bs cs : List (ℕ × Kd)) → ((b : ℕ × Kd) → Contains bs b → Contains cs b) → Unique cs → Unique bs
unfolding Unique
fewer_unique bs cs sub u s k l c d = u s k l (sub (s, k) c) (sub (s, l) d)

names_keep : (p : Pg) (ds more : List Dt) → Unique (names_at p (ds ++ more)) → Keeps (names_at p ds) (names_at p (ds ++ more))
names_keep p ds more u s k h = found_there (names_at p (ds ++ more)) u s k (names_grow p ds more (s, k) (there_of (names_at p ds) s k h))

top_more : (p : Pg) (ds more : List Dt) (n : ℕ) {c : Cn} {k : Kd} → Unique (names_at p (ds ++ more)) → Kinded (at_top n (names_at p ds)) c k → Kinded (at_top n (names_at p (ds ++ more))) c k
top_more p ds more n u h = kinded_more (record { binders = refl; guards = refl; basics = names_keep p ds more u }) h

-- what each constructor of a datatype holds is a type
abbrev Holds : List (ℕ × Kd) → Dt → Type 0
Holds bs d = (c : Cd) (h : Cn) → Contains d.constructors c → c.holds ≡ Some h → Kinded (at_top (arity d) bs) h types

none_is_none : {P : Type 0} (h : Cn) → None ≡ Some h → P
none_is_none h e = cc

holds_nothing : {P : Type 0} (x c : Cd) (h : Cn) → x ≡ c → x.holds ≡ None → c.holds ≡ Some h → P
holds_nothing x c h e n s = none_is_none h (sym n ∙ ap (λ (y : Cd). y.holds) e ∙ s)

holds_this : (x c : Cd) (h u : Cn) → x ≡ c → x.holds ≡ Some u → c.holds ≡ Some h → u ≡ h
holds_this x c h u e n s = let both : Some u ≡ Some h = sym n ∙ ap (λ (y : Cd). y.holds) e ∙ s in cc

names_apart : Apart [] (name first_name) (name second_name)
names_apart =
    let differ : first_name ≢ second_name = λ e. omega (arith, e) in
    apart same same (All-cons (λ x. All (Separated [] x) (name second_name ∷ [])) (name first_name) [] (All-cons (Separated [] (name first_name)) (name second_name) [] (names_differ differ) (All-nil (Separated [] (name first_name)))) (All-nil (λ x. All (Separated [] x) (name second_name ∷ []))))

two_fields_apart : PairwiseApart [] (name first_name ∷ name second_name ∷ [])
two_fields_apart = (All-cons (Apart [] (name first_name)) (name second_name) [] names_apart (All-nil (Apart [] (name first_name))), (All-nil (Apart [] (name second_name)), tt))

-- an element of a list, and the rest of the list, as a record
abbrev pair_of : Cn
pair_of = record_of (row types (pair (name first_name) (var 0) (pair (name second_name) (app (basic list_name) (var 0)) no_pairs)))

basis_holds : (bs : List (ℕ × Kd)) → basic_kind bs list_name ≡ Some (to types types) → (d : Dt) → Contains basis_datatypes d → Holds bs d
basis_holds bs l d (zero, lt, e) c h i s = subst (λ x. Contains x.constructors c → Kinded (at_top (arity x) bs) h types) e bools i
  where
    bools : Contains (constructor_of false_name None ∷ constructor_of true_name None ∷ []) c → Kinded (at_top 0 bs) h types
    bools (zero, lt, e) = holds_nothing (constructor_of false_name None) c h e refl s
    bools (suc zero, lt, e) = holds_nothing (constructor_of true_name None) c h e refl s
    bools (suc (suc i), lt, e) = absurd (omega (arith, lt))
basis_holds bs l d (suc zero, lt, e) c h i s = subst (λ x. Contains x.constructors c → Kinded (at_top (arity x) bs) h types) e options i
  where
    options : Contains (constructor_of none_name None ∷ constructor_of some_name (Some (var 0)) ∷ []) c → Kinded (at_top 1 bs) h types
    options (zero, lt, e) = holds_nothing (constructor_of none_name None) c h e refl s
    options (suc zero, lt, e) = subst (λ u. Kinded (at_top 1 bs) u types) (holds_this (constructor_of some_name (Some (var 0))) c h (var 0) e refl s) (of_var refl)
    options (suc (suc i), lt, e) = absurd (omega (arith, lt))
basis_holds bs l d (suc (suc zero), lt, e) c h i s = subst (λ x. Contains x.constructors c → Kinded (at_top (arity x) bs) h types) e lists i
  where
    lists : Contains (constructor_of nil_name None ∷ constructor_of cons_name (Some pair_of) ∷ []) c → Kinded (at_top 1 bs) h types
    lists (zero, lt, e) = holds_nothing (constructor_of nil_name None) c h e refl s
    lists (suc zero, lt, e) = subst (λ u. Kinded (at_top 1 bs) u types) (holds_this (constructor_of cons_name (Some pair_of)) c h pair_of e refl s)
        (of_record (of_row (a_field of_name (of_var refl) (a_field of_name (of_app (of_basic l) (of_var refl)) no_fields)) two_fields_apart))
    lists (suc (suc i), lt, e) = absurd (omega (arith, lt))
basis_holds bs l d (suc (suc (suc n)), lt, e) c h i s = absurd (omega (arith, lt))

-- what is declared so far has types
record Good (p : Pg) (tops : List Cn) (ds : List Dt) : Type 0 where
  values_are : AreTypes (at_top 0 (names_at p ds)) tops
  held_are : (d : Dt) → Contains (basis_datatypes ++ ds) d → Holds (names_at p ds) d

named_values_are : {A : Asks} {G H : Sc} {ns : Nms} (path : List ℕ) → NamedTyped A G H ns → AreTypes G.kinds (value_types (named_values path ns))
named_values_are path no_name = none_are
named_values_are path (each_name {t = t} {ns = ns} k e rest) = more_are t (value_types (named_values path ns)) k (named_values_are path rest)

-- under a datatype's parameters
under_are : (bs : List (ℕ × Kd)) (xs : List ℕ) (m : ℕ) (G : Sc) → G.kinds ≡ at_top m bs → (under_types xs G).kinds ≡ at_top (length xs + m) bs
under_are bs [] m G e = let none : m ≡ 0 + m = omega arith in e ∙ ap (λ k. at_top k bs) none
under_are bs (x ∷ xs) m G e =
    let next : length xs + suc m ≡ suc (length xs) + m = omega arith in
    under_are bs xs (suc m) (under_con x types G) (ap (bind types) e) ∙ ap (λ k. at_top k bs) next

one_more_datatype : (p : Pg) (tops : List Cn) (ds : List Dt) (d : Dt) → Unique (names_at p (ds ++ d ∷ [])) → HoldsTypes (scope_with p tops (ds ++ d ∷ [])) d → Good p tops ds → Good p tops (ds ++ d ∷ [])
one_more_datatype p tops ds d u h g = record {
  values_are = λ i t e. top_more p ds (d ∷ []) 0 u (g.values_are i t e);
  held_are = λ x c. elim (Contains-append_cases (basis_datatypes ++ ds) (d ∷ []) x c) [
    | inl i ↦ λ k y j s. top_more p ds (d ∷ []) (arity x) u (g.held_are x i k y j s)
    | inr i ↦ elim (head_or x d [] i) [ inl e ↦ subst (Holds (names_at p (ds ++ d ∷ []))) e own | inr j ↦ nothing_in x j ]
  ];
}
  where
    own : Holds (names_at p (ds ++ d ∷ [])) d
    own k y j s =
        let plain : arity d + 0 ≡ arity d = omega arith in
        subst (λ S. Kinded S y types) (under_are (names_at p (ds ++ d ∷ [])) d.parameters 0 (scope_with p tops (ds ++ d ∷ [])) refl ∙ ap (λ k. at_top k (names_at p (ds ++ d ∷ []))) plain) (h k y j s)

good_at : {p : Pg} {tops us : List Cn} {ds es : List Dt} → tops ≡ us → ds ≡ es → Good p tops ds → Good p us es
good_at {p} {tops} {us} {ds} {es} e h g = subst (λ xs. Good p us xs) h (subst (λ ts. Good p ts ds) e g)

declared_after : {A : Asks} (p : Pg) (front rest : List De) (tops : List Cn) (ds : List Dt) → Unique (names_at p (ds ++ datatypes (front ++ rest))) → DeclsTyped A p tops ds (front ++ rest) → Good p tops ds → Good p (tops ++ value_types (values front)) (ds ++ datatypes front)
declared_after p [] rest tops ds u t g = good_at (sym (append-nil tops)) (sym (append-nil ds)) g
declared_after p (val path at x w c e ∷ front) rest tops ds u (a_val k y t) g =
    good_at (append_assoc tops (c ∷ []) (value_types (values front))) refl
    (declared_after p front rest (tops ++ c ∷ []) ds u t (record { values_are = both_are tops (c ∷ []) g.values_are (more_are c [] k none_are); held_are = g.held_are }))
declared_after p (vals path ns ∷ front) rest tops ds u (some_vals y t) g =
    good_at (append_assoc tops (value_types (named_values path ns)) (value_types (values front)) ∙ ap (λ ts. tops ++ ts) (sym (map-append (λ (v : Value). v.con) (named_values path ns) (values front)))) refl
    (declared_after p front rest (tops ++ value_types (named_values path ns)) ds u t (record { values_are = both_are tops (value_types (named_values path ns)) g.values_are (named_values_are path y); held_are = g.held_are }))
declared_after p (con_is path at x w k c ∷ front) rest tops ds u (a_con y t) g = declared_after p front rest tops ds u t g
declared_after p (thing path at x k c ∷ front) rest tops ds u t g = elim t [ ]
declared_after p (datatype d ∷ front) rest tops ds u (a_datatype h n t) g =
    let all = subst (λ es. Unique (names_at p es)) (sym (append_assoc ds (d ∷ []) (datatypes (front ++ rest)))) u in
    let these = fewer_unique (names_at p (ds ++ d ∷ [])) (names_at p ((ds ++ d ∷ []) ++ datatypes (front ++ rest))) (names_grow p (ds ++ d ∷ []) (datatypes (front ++ rest))) all in
    good_at refl (append_assoc ds (d ∷ []) (datatypes front)) (declared_after p front rest tops (ds ++ d ∷ []) all t (one_more_datatype p tops ds d these h g))

-- what is found in lists
datatype_test : (x d : Dt) (ds : List Dt) (s : ℕ) (b : Bool) → (x.symbol == s) ≡ b → (datatype_of ds s ≡ Some d → Contains ds d × (d.symbol ≡ s)) → (if b then Some x else datatype_of ds s) ≡ Some d → Contains (x ∷ ds) d × (d.symbol ≡ s)
datatype_test x d ds s true t next h = let same : x ≡ d = cc in subst (λ y. Contains (x ∷ ds) y × (y.symbol ≡ s)) same (contains_head x ds, eqb-true x.symbol s t)
datatype_test x d ds s false t next h = let r = next h in (contains_tail d x ds r.0, r.1)

datatype_in : (ds : List Dt) (s : ℕ) (d : Dt) → datatype_of ds s ≡ Some d → Contains ds d × (d.symbol ≡ s)
datatype_in [] s d e = cc
datatype_in (x ∷ ds) s d e = datatype_test x d ds s (x.symbol == s) refl (datatype_in ds s d) e

kind_in : (ds : List Dt) (d : Dt) → Contains ds d → Contains (datatype_kinds ds) (d.symbol, type_taking (arity d))
kind_in [] d c = nothing_in d c
kind_in (x ∷ ds) d c = elim (head_or d x ds c) [
  | inl e ↦ subst (λ y. Contains (datatype_kinds (x ∷ ds)) (y.symbol, type_taking (arity y))) e (contains_head (x.symbol, type_taking (arity x)) (datatype_kinds ds))
  | inr i ↦ contains_tail (d.symbol, type_taking (arity d)) (x.symbol, type_taking (arity x)) (datatype_kinds ds) (kind_in ds d i)
]

folder_in : (fs : List (Kd × ℕ)) (k : Kd) (s : ℕ) → Contains fs (k, s) → Contains (folder_kinds fs) (s, to (row_of k) types)
folder_in [] k s c = nothing_in (k, s) c
folder_in (f ∷ fs) k s c = elim (head_or (k, s) f fs c) [
  | inl e ↦ subst (λ (y : Kd × ℕ). Contains (folder_kinds (f ∷ fs)) (y.1, to (row_of y.0) types)) e (contains_head (f.1, to (row_of f.0) types) (folder_kinds fs))
  | inr i ↦ contains_tail (s, to (row_of k) types) (f.1, to (row_of f.0) types) (folder_kinds fs) (folder_in fs k s i)
]

has_types : (p : Pg) (tops : List Cn) (ds : List Dt) → Unique (names_at p ds) → Good p tops ds → HasTypes (scope_with p tops ds)
has_types p tops ds u g = record { grounded = grounded; locals = λ i t e. cc }
  where
    middle : (b : ℕ × Kd) → Contains (datatype_kinds (basis_datatypes ++ ds)) b → Contains (names_at p ds) b
    middle b c = Contains-append_right basis_kinds (datatype_kinds (basis_datatypes ++ ds) ++ folder_kinds p.folders) b (Contains-append_left (datatype_kinds (basis_datatypes ++ ds)) (folder_kinds p.folders) b c)

    last : (b : ℕ × Kd) → Contains (folder_kinds p.folders) b → Contains (names_at p ds) b
    last b c = Contains-append_right basis_kinds (datatype_kinds (basis_datatypes ++ ds) ++ folder_kinds p.folders) b (Contains-append_right (datatype_kinds (basis_datatypes ++ ds)) (folder_kinds p.folders) b c)

    grounded : Grounded (scope_with p tops ds)
    grounded = record {
      tops = g.values_are;
      held = λ s j d c h e k x. g.held_are d (datatype_in (basis_datatypes ++ ds) s d e).0 c h (there_in d.constructors j c k) x;
      datatypes = λ s d e. let r = datatype_in (basis_datatypes ++ ds) s d e in subst (λ x. basic_kind (names_at p ds) x ≡ Some (type_taking (arity d))) r.1 (found_there (names_at p ds) u d.symbol (type_taking (arity d)) (middle (d.symbol, type_taking (arity d)) (kind_in (basis_datatypes ++ ds) d r.0)));
      folders = λ k s c. found_there (names_at p ds) u s (to (row_of k) types) (last (s, to (row_of k) types) (folder_in p.folders k s c));
      basis = λ b c. found_there (names_at p ds) u b.0 b.1 (Contains-append_left basis_kinds (datatype_kinds (basis_datatypes ++ ds) ++ folder_kinds p.folders) b c);
      bools = found_there (names_at p ds) u bool_name types (middle (bool_name, types) (0, omega arith, refl));
      options = found_there (names_at p ds) u option_name (to types types) (middle (option_name, to types types) (1, omega arith, refl));
      lists = found_there (names_at p ds) u list_name (to types types) (middle (list_name, to types types) (2, omega arith, refl));
    }

pub datatypes_of : (front rest : List De) → datatypes (front ++ rest) ≡ datatypes front ++ datatypes rest
datatypes_of [] rest = refl
datatypes_of (val path at x w t e ∷ front) rest = datatypes_of front rest
datatypes_of (vals path ns ∷ front) rest = datatypes_of front rest
datatypes_of (con_is path at x w k c ∷ front) rest = datatypes_of front rest
datatypes_of (thing path at x k t ∷ front) rest = datatypes_of front rest
datatypes_of (datatype d ∷ front) rest = ap (λ ds. d ∷ ds) (datatypes_of front rest)

start : (p : Pg) → Unique (names_at p []) → Good p [] []
start p u = record { values_are = none_are; held_are = λ d c. basis_holds (names_at p []) (found_there (names_at p []) u list_name (to types types) (Contains-append_right basis_kinds (datatype_kinds (basis_datatypes ++ []) ++ folder_kinds p.folders) (list_name, to types types) (2, omega arith, refl))) d c }

pub accepted_have_types : (p : Pg) (front rest : List De) → Accepts p → p.decls ≡ front ++ rest → HasTypes (scope_with p (value_types (values front)) (datatypes front))
unfolding Unique
accepted_have_types p front rest a e =
    let whole : Unique (names_at p (datatypes (front ++ rest))) = subst (λ ds. Unique (names_at p (datatypes ds))) e (unique (names_at p (datatypes p.decls)) a.formed.symbols) in
    let both : Unique (names_at p (datatypes front ++ datatypes rest)) = subst (λ ds. Unique (names_at p ds)) (datatypes_of front rest) whole in
    let here : Unique (names_at p (datatypes front)) = fewer_unique (names_at p (datatypes front)) (names_at p (datatypes front ++ datatypes rest)) (names_grow p (datatypes front) (datatypes rest)) both in
    let none : Unique (names_at p []) = fewer_unique (names_at p []) (names_at p (datatypes (front ++ rest))) (names_grow p [] (datatypes (front ++ rest))) whole in
    has_types p (value_types (values front)) (datatypes front) here (declared_after p front rest [] [] whole (subst (λ ds. DeclsTyped cover_asked p [] [] ds) e a.typed) (start p none))
