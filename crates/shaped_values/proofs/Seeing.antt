-- What the normal form of a type tells of its values and shapes.
use Rattle.std.proofs.Common.{◌≡◌, ℕ, zero, suc, ◌≤◌, ◌-◌, ◌+◌, ℤ, List, Option, Some, None, option_map, slice_get, false, Ok, refl, ap, sym, subst, ◌∙◌, arith}
use Rattle.con_terms.specs.Trees.{Cn, basic}
use Rattle.row_normal.specs.NormalForm.{nf, next_step, too_deep}
use Rattle.row_normal.specs.Finished.{finished}
use Rattle.row_normal.specs.Steps.{run}
use Rattle.row_normal.proofs.Runs.{run_ended}
use Rattle.row_normal.proofs.Units.{run_more}
use Rattle.kind_rules.specs.Compared.{comparison_units, with_first, with_second}
use Rattle.core_terms.specs.Names.{int_name, string_name}
use Rattle.core_terms.specs.Types.{int_type, string_type}
use Rattle.core_terms.specs.Trees.{Cd, Dt}
use Rattle.core_terms.specs.Datatypes.{held_at}
use Rattle.core_typing.specs.Scopes.{normal_of}
use Rattle.core_typing.specs.Compared.{Alike}
use Rattle.core_typing.proofs.Normal.{first_form, second_form, pairs_are}
use Rattle.core_typing.specs.Seen.{Seen, a_number, a_text, a_datatype, a_record, nothing_more, seen}
use Rattle.core_typing.specs.Cover as cover
use Rattle.core_typing.specs.Cover.{Shp, leaf, number_shape, text_shape, bare_shape, holding_shape, record_shape, Shf, ShapeOf, ShapesOf}
use Rattle.core_meaning.specs.Values.{V}
use Rattle.shaped_values.specs.Values.{IsOf, deeper, at_form, IsOfSeen}
use Rattle.shaped_values.proofs.Names.{some_is}

-- the shapes of a type that is seen so
pub data ShapeSeen (ds : List Dt) (d : ℕ) : Seen → Shp → Type 0 where
  leaf_seen : ShapeSeen ds d nothing_more leaf
  number_seen : {z : ℤ} → ShapeSeen ds d a_number (number_shape z)
  text_seen : {w : List ℕ} → ShapeSeen ds d a_text (text_shape w)
  bare_seen : {x : Dt} {args : List Cn} {j : ℕ} → ShapeSeen ds d (a_datatype x args) (bare_shape x.symbol j)
  holding_seen : {x : Dt} {args : List Cn} {j : ℕ} {c : Cd} {held : Cn} {s : Shp}
      → slice_get x.constructors j ≡ Some c
      → c.holds ≡ Some held
      → ShapeOf ds d (held_at args held) s
      → ShapeSeen ds d (a_datatype x args) (holding_shape x.symbol j s)
  record_seen : {fs : List (Cn × Cn)} {ss : Shf} → ShapesOf ds d fs ss → ShapeSeen ds d (a_record fs) (record_shape ss)

-- what two normal forms of one type are seen as
seen_once : (ds : List Dt) (t : Cn) {m n : Cn} {x y : Seen} → normal_of t ≡ Some m → seen ds m ≡ x → normal_of t ≡ Some n → seen ds n ≡ y → x ≡ y
seen_once ds t e p f q = sym p ∙ ap (seen ds) (some_is (sym e ∙ f)) ∙ q

pub shape_seen : {ds : List Dt} {d : ℕ} {t n : Cn} {x : Seen} {s : Shp} → ShapeOf ds (suc d) t s → normal_of t ≡ Some n → seen ds n ≡ x → ShapeSeen ds d x s
shape_seen {ds} {d} {t = t} {s = s} (cover.no_more e p) f q = subst (λ y. ShapeSeen ds d y s) (seen_once ds t e p f q) leaf_seen
shape_seen {ds} {d} {t = t} {s = s} (cover.of_number e p i) f q = subst (λ y. ShapeSeen ds d y s) (seen_once ds t e p f q) number_seen
shape_seen {ds} {d} {t = t} {s = s} (cover.of_text e p i) f q = subst (λ y. ShapeSeen ds d y s) (seen_once ds t e p f q) text_seen
shape_seen {ds} {d} {t = t} {s = s} (cover.of_bare e p i j) f q = subst (λ y. ShapeSeen ds d y s) (seen_once ds t e p f q) bare_seen
shape_seen {ds} {d} {t = t} {s = s} (cover.of_holding e p i j h) f q = subst (λ y. ShapeSeen ds d y s) (seen_once ds t e p f q) (holding_seen i j h)
shape_seen {ds} {d} {t = t} {s = s} (cover.of_record e p h) f q = subst (λ y. ShapeSeen ds d y s) (seen_once ds t e p f q) (record_seen h)

pub value_seen : {ds : List Dt} {cs : List Cn} {d : ℕ} {t n : Cn} {x : Seen} {v : V} → IsOf ds cs (suc d) t v → normal_of t ≡ Some n → seen ds n ≡ x → IsOfSeen ds cs d x v
value_seen {ds} {cs} {d} {t = t} {v = v} (at_form e o) f q = subst (λ y. IsOfSeen ds cs d y v) (seen_once ds t e refl f q) o

-- there is a normal form
pub form_of : {ds : List Dt} {cs : List Cn} {d : ℕ} {t : Cn} {v : V} → IsOf ds cs (suc d) t v → (n : Cn) × (normal_of t ≡ Some n)
form_of (at_form {n = n} e o) = (n, e)

-- int and string are seen as such
basic_form : (k s : ℕ) (n : Cn) (l : ℕ) → nf k (basic s) ≡ Some (n, l) → n ≡ basic s
basic_form zero s n l e = cc
basic_form (suc k) s n l e = sym (ap (λ (r : Cn × ℕ). r.0) (some_is {X = Cn × ℕ} e))

pub number_is_seen : (ds : List Dt) {t n : Cn} → Alike t int_type → normal_of t ≡ Some n → seen ds n ≡ a_number
number_is_seen ds {t} {n} a f =
    let (k, l, e) = second_form t int_type a.forms in
    let is : n ≡ basic int_name = some_is (sym f ∙ first_form t int_type a.forms) ∙ basic_form k int_name a.form l e in
    ap (seen ds) is

pub text_is_seen : (ds : List Dt) {t n : Cn} → Alike t string_type → normal_of t ≡ Some n → seen ds n ≡ a_text
text_is_seen ds {t} {n} a f =
    let (k, l, e) = second_form t string_type a.forms in
    let is : n ≡ basic string_name = some_is (sym f ∙ first_form t string_type a.forms) ∙ basic_form k string_name a.form l e in
    ap (seen ds) is

-- what is found with fewer units is found with all
unmapped : (o : Option (Cn × ℕ)) (n : Cn) (l : ℕ) → option_map {U = Cn × ℕ} (λ (r : Cn × ℕ). (finished r.0, r.1)) o ≡ Some (n, l)
    → (m : Cn) × (finished m ≡ n) × (o ≡ Some (m, l))
unmapped None n l e = cc
unmapped (Some r) n l e =
    let is : ◌≡◌ {A = Cn × ℕ} (finished r.0, r.1) (n, l) = some_is {X = Cn × ℕ} e in
    (r.0, ap (λ (x : Cn × ℕ). x.0) is, ap (λ k. Some (r.0, k)) (ap (λ (x : Cn × ℕ). x.1) is))

fewer_units : (k l : ℕ) (c n : Cn) → nf k c ≡ Some (n, l) → l ≤ k
fewer_units k l c n e =
    let (m, is, ran) = unmapped (run next_step too_deep (λ _. false) k c) n l e in
    (run_ended next_step too_deep (λ _. false) k l c m ran).no_more

more_units : (k j l : ℕ) (c n : Cn) → nf k c ≡ Some (n, l) → nf (k + j) c ≡ Some (n, l + j)
more_units k j l c n e =
    let (m, is, ran) = unmapped (run next_step too_deep (λ _. false) k c) n l e in
    ap (option_map {U = Cn × ℕ} (λ (r : Cn × ℕ). (finished r.0, r.1))) (run_more next_step too_deep (λ _. false) k l j c m ran) ∙ ap (λ x. Some (x, l + j)) is

all_units : (k u l : ℕ) (c n : Cn) → k ≤ u → nf k c ≡ Some (n, l) → (m : ℕ) × (nf u c ≡ Some (n, m))
all_units k u l c n h e =
    let whole : k + (u - k) ≡ u = omega (arith, h) in
    (l + (u - k), subst (λ w. nf w c ≡ Some (n, l + (u - k))) whole (more_units k (u - k) l c n e))

-- the other of two types that have one normal form
second_units : (k m n : Cn) (o : Option (Cn × ℕ)) → with_second k o ≡ Ok (m, n) → (l : ℕ) × (o ≡ Some (n, l))
second_units k m n None e = cc
second_units k m n (Some r) e = (r.1, ap (λ x. Some (x, r.1)) (ap (λ (z : Cn × Cn). z.1) (pairs_are e)))

first_units : (o : Option (Cn × ℕ)) (c m n : Cn) → with_first o c ≡ Ok (m, n) → (r : Cn × ℕ) × (o ≡ Some r) × ((l : ℕ) × (nf r.1 c ≡ Some (n, l)))
first_units None c m n e = cc
first_units (Some r) c m n e = (r, refl, second_units r.0 m n (nf r.1 c) e)

pub other_form : {t u n : Cn} → Alike t u → normal_of t ≡ Some n → normal_of u ≡ Some n
other_form {t} {u} {n} a f =
    let (r, e, (l, g)) = first_units (nf comparison_units t) u a.form a.form a.forms in
    let (m, h) = all_units r.1 comparison_units l u a.form (fewer_units comparison_units r.1 t r.0 e) g in
    ap (λ o. elim o [ None ↦ None | Some s ↦ Some s.0 ]) h ∙ sym (first_form t u a.forms) ∙ f

-- has its values
pub other_value : {ds : List Dt} {cs : List Cn} {d : ℕ} {t u : Cn} {v : V} → Alike t u → IsOf ds cs d t v → IsOf ds cs d u v
other_value a deeper = deeper
other_value a (at_form e o) = at_form (other_form a e) o

-- and its shapes
pub other_shape : {ds : List Dt} {d : ℕ} {t u : Cn} {s : Shp} → Alike t u → ShapeOf ds d t s → ShapeOf ds d u s
other_shape a cover.deeper = cover.deeper
other_shape a (cover.no_more e p) = cover.no_more (other_form a e) p
other_shape a (cover.of_number e p i) = cover.of_number (other_form a e) p i
other_shape a (cover.of_text e p i) = cover.of_text (other_form a e) p i
other_shape a (cover.of_bare e p i j) = cover.of_bare (other_form a e) p i j
other_shape a (cover.of_holding e p i j h) = cover.of_holding (other_form a e) p i j h
other_shape a (cover.of_record e p h) = cover.of_record (other_form a e) p h
