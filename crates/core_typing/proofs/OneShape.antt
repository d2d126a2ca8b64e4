-- The routes of an accepted program are one: a type has one shape, and a value one entry by each method.
use Rattle.std.proofs.Common.{◌≡◌, ℕ, suc, ◌-◌, List, [], ◌∷◌, Option, Some, slice_get, refl, ap, sym, ◌∙◌, arith}
use Rattle.con_terms.specs.Trees.{Cn, var, record_of}
use Rattle.table_rows.specs.Shapes.{Sh, an_int, a_text, a_unit, a_truth, a_record, a_data, parameter, Shs, shape, Cases}
use Rattle.core_terms.specs.Trees.{Cd, Dt}
use Rattle.core_typing.specs.Scopes.{normal_of}
use Rattle.core_typing.specs.Seen.{Seen, a_number, a_datatype, nothing_more, literal_fields, seen}
use Rattle.core_typing.specs.Seen as seen
use Rattle.core_typing.specs.Entries.{put_part, parts_of, Shaped, of_int, of_text, of_truth, of_datatype, of_nothing, of_fields, of_parameter, AllShaped, none_shaped, one_shaped, FieldsShaped, no_field_shaped, field_shaped, HeldShaped, holds_nothing, holds_one, CasesShaped, no_case, a_case, DatatypesShaped, no_datatype, carried, not_carried}
use Rattle.link_router.proofs.ReadBack.{heads, tails}

-- what kind of type a normal form is, and a shape
abbrev class : Seen → ℕ
class a_number = 0
class seen.a_text = 1
class (a_datatype d args) = 2
class (seen.a_record fs) = 3
class nothing_more = 4

abbrev shape_class : Sh → ℕ
shape_class an_int = 0
shape_class a_text = 1
shape_class a_truth = 2
shape_class (a_data i ss) = 2
shape_class a_unit = 3
shape_class (a_record ps) = 3
shape_class (parameter i) = 4

two_forms : {t u m n : Cn} → t ≡ u → normal_of t ≡ Some m → normal_of u ≡ Some n → m ≡ n
two_forms {m = m} {n = n} e h k = let both : Some m ≡ Some n = sym h ∙ ap normal_of e ∙ k in cc

seen_so : (ds : List Dt) {t u m n : Cn} {x : Seen} → t ≡ u → normal_of t ≡ Some m → normal_of u ≡ Some n → seen ds n ≡ x → class (seen ds m) ≡ class x
seen_so ds e h k i = ap (λ c. class (seen ds c)) (two_forms e h k) ∙ ap class i

shaped_class : {names : List (List ℕ)} {ds : List Dt} {k : ℕ} {t u m : Cn} {s : Sh} → t ≡ u → normal_of t ≡ Some m → Shaped names ds k u s → class (seen ds m) ≡ shape_class s
shaped_class {ds = ds} q m (of_int h e) = seen_so ds q m h e
shaped_class {ds = ds} q m (of_text h e) = seen_so ds q m h e
shaped_class {ds = ds} q m (of_truth h e b) = seen_so ds q m h e
shaped_class {ds = ds} q m (of_datatype h e b i as') = seen_so ds q m h e
shaped_class {ds = ds} q m (of_nothing h e) = seen_so ds q m h refl
shaped_class {ds = ds} q m (of_fields h e fs) = seen_so ds q m h refl
shaped_class {ds = ds} q m (of_parameter h i) = seen_so ds q m h refl

-- two shapes of one type are of one class
one_class : {names : List (List ℕ)} {ds : List Dt} {k : ℕ} {t u m : Cn} {s r : Sh} → t ≡ u → normal_of t ≡ Some m → Shaped names ds k t s → Shaped names ds k u r → shape_class s ≡ shape_class r
one_class q m a b = sym (shaped_class refl m a) ∙ shaped_class q m b

-- no two datatypes of a list are one
abbrev pub OnePlace : List Dt → Type 0
OnePlace ds = (i j : ℕ) (d : Dt) → slice_get ds i ≡ Some d → slice_get ds j ≡ Some d → i ≡ j

same_data : (ds : List Dt) {t u m n : Cn} {d b : Dt} {args more : List Cn} → t ≡ u → normal_of t ≡ Some m → normal_of u ≡ Some n → seen ds m ≡ a_datatype d args → seen ds n ≡ a_datatype b more → (d ≡ b) × (args ≡ more)
same_data ds {d = d} {b = b} {args = args} {more = more} q h g e f =
    let both : a_datatype d args ≡ a_datatype b more = sym e ∙ ap (seen ds) (two_forms q h g) ∙ f in
    (first both, second both)
  where
    first : {d b : Dt} {xs ys : List Cn} → a_datatype d xs ≡ a_datatype b ys → d ≡ b
    first z = cc

    second : {d b : Dt} {xs ys : List Cn} → a_datatype d xs ≡ a_datatype b ys → xs ≡ ys
    second z = cc

same_row : {t u r s : Cn} → t ≡ u → normal_of t ≡ Some (record_of r) → normal_of u ≡ Some (record_of s) → r ≡ s
same_row {r = r} {s = s} q h g = let both : record_of r ≡ record_of s = two_forms q h g in cc

same_variable : {t u : Cn} {i j : ℕ} → t ≡ u → normal_of t ≡ Some (var i) → normal_of u ≡ Some (var j) → i ≡ j
same_variable {i = i} {j = j} q h g = let both : var i ≡ var j = two_forms q h g in cc

no_fields_there : {P X : Type 0} {x : X} {xs : List X} → [] ≡ x ∷ xs → P
no_fields_there e = cc

same_text : (names : List (List ℕ)) {x y : ℕ} {n m : List ℕ} → x ≡ y → slice_get names x ≡ Some n → slice_get names y ≡ Some m → n ≡ m
same_text names {n = n} {m = m} e h g = let both : Some n ≡ Some m = sym h ∙ ap (slice_get names) e ∙ g in cc

mutual
  -- a type has one shape
  pub one_shape : {names : List (List ℕ)} {ds : List Dt} {k : ℕ} {t u : Cn} {s r : Sh} → OnePlace ds → Shaped names ds k t s → Shaped names ds k u r → t ≡ u → s ≡ r
  one_shape {names} {ds} {k} o (of_int h e) (of_int g f) q = refl
  one_shape {names} {ds} {k} o (of_int h e) (of_text g f) q = let z : ◌≡◌ {A = ℕ} 0 1 = one_class {names = names} {ds = ds} {k = k} q h (of_int h e) (of_text g f) in absurd (omega (arith, z))
  one_shape {names} {ds} {k} o (of_int h e) (of_truth g f c) q = let z : ◌≡◌ {A = ℕ} 0 2 = one_class {names = names} {ds = ds} {k = k} q h (of_int h e) (of_truth g f c) in absurd (omega (arith, z))
  one_shape {names} {ds} {k} o (of_int h e) (of_datatype g f c j bs) q = let z : ◌≡◌ {A = ℕ} 0 2 = one_class {names = names} {ds = ds} {k = k} q h (of_int h e) (of_datatype g f c j bs) in absurd (omega (arith, z))
  one_shape {names} {ds} {k} o (of_int h e) (of_nothing g f) q = let z : ◌≡◌ {A = ℕ} 0 3 = one_class {names = names} {ds = ds} {k = k} q h (of_int h e) (of_nothing g f) in absurd (omega (arith, z))
  one_shape {names} {ds} {k} o (of_int h e) (of_fields g f gs) q = let z : ◌≡◌ {A = ℕ} 0 3 = one_class {names = names} {ds = ds} {k = k} q h (of_int h e) (of_fields g f gs) in absurd (omega (arith, z))
  one_shape {names} {ds} {k} o (of_int h e) (of_parameter g j) q = let z : ◌≡◌ {A = ℕ} 0 4 = one_class {names = names} {ds = ds} {k = k} q h (of_int h e) (of_parameter g j) in absurd (omega (arith, z))
  one_shape {names} {ds} {k} o (of_text h e) (of_int g f) q = let z : ◌≡◌ {A = ℕ} 1 0 = one_class {names = names} {ds = ds} {k = k} q h (of_text h e) (of_int g f) in absurd (omega (arith, z))
  one_shape {names} {ds} {k} o (of_text h e) (of_text g f) q = refl
  one_shape {names} {ds} {k} o (of_text h e) (of_truth g f c) q = let z : ◌≡◌ {A = ℕ} 1 2 = one_class {names = names} {ds = ds} {k = k} q h (of_text h e) (of_truth g f c) in absurd (omega (arith, z))
  one_shape {names} {ds} {k} o (of_text h e) (of_datatype g f c j bs) q = let z : ◌≡◌ {A = ℕ} 1 2 = one_class {names = names} {ds = ds} {k = k} q h (of_text h e) (of_datatype g f c j bs) in absurd (omega (arith, z))
  one_shape {names} {ds} {k} o (of_text h e) (of_nothing g f) q = let z : ◌≡◌ {A = ℕ} 1 3 = one_class {names = names} {ds = ds} {k = k} q h (of_text h e) (of_nothing g f) in absurd (omega (arith, z))
  one_shape {names} {ds} {k} o (of_text h e) (of_fields g f gs) q = let z : ◌≡◌ {A = ℕ} 1 3 = one_class {names = names} {ds = ds} {k = k} q h (of_text h e) (of_fields g f gs) in absurd (omega (arith, z))
  one_shape {names} {ds} {k} o (of_text h e) (of_parameter g j) q = let z : ◌≡◌ {A = ℕ} 1 4 = one_class {names = names} {ds = ds} {k = k} q h (of_text h e) (of_parameter g j) in absurd (omega (arith, z))
  one_shape {names} {ds} {k} o (of_truth h e b) (of_int g f) q = let z : ◌≡◌ {A = ℕ} 2 0 = one_class {names = names} {ds = ds} {k = k} q h (of_truth h e b) (of_int g f) in absurd (omega (arith, z))
  one_shape {names} {ds} {k} o (of_truth h e b) (of_text g f) q = let z : ◌≡◌ {A = ℕ} 2 1 = one_class {names = names} {ds = ds} {k = k} q h (of_truth h e b) (of_text g f) in absurd (omega (arith, z))
  one_shape {names} {ds} {k} o (of_truth h e b) (of_truth g f c) q = refl
  one_shape {names} {ds} {k} o (of_truth h e b) (of_datatype g f c j bs) q = absurd (c (ap (λ (d : Dt). d.symbol) (sym (same_data ds q h g e f).0) ∙ b))
  one_shape {names} {ds} {k} o (of_truth h e b) (of_nothing g f) q = let z : ◌≡◌ {A = ℕ} 2 3 = one_class {names = names} {ds = ds} {k = k} q h (of_truth h e b) (of_nothing g f) in absurd (omega (arith, z))
  one_shape {names} {ds} {k} o (of_truth h e b) (of_fields g f gs) q = let z : ◌≡◌ {A = ℕ} 2 3 = one_class {names = names} {ds = ds} {k = k} q h (of_truth h e b) (of_fields g f gs) in absurd (omega (arith, z))
  one_shape {names} {ds} {k} o (of_truth h e b) (of_parameter g j) q = let z : ◌≡◌ {A = ℕ} 2 4 = one_class {names = names} {ds = ds} {k = k} q h (of_truth h e b) (of_parameter g j) in absurd (omega (arith, z))
  one_shape {names} {ds} {k} o (of_datatype h e b i as') (of_int g f) q = let z : ◌≡◌ {A = ℕ} 2 0 = one_class {names = names} {ds = ds} {k = k} q h (of_datatype h e b i as') (of_int g f) in absurd (omega (arith, z))
  one_shape {names} {ds} {k} o (of_datatype h e b i as') (of_text g f) q = let z : ◌≡◌ {A = ℕ} 2 1 = one_class {names = names} {ds = ds} {k = k} q h (of_datatype h e b i as') (of_text g f) in absurd (omega (arith, z))
  one_shape {names} {ds} {k} o (of_datatype h e b i as') (of_truth g f c) q = absurd (b (ap (λ (d : Dt). d.symbol) (same_data ds q h g e f).0 ∙ c))
  one_shape {names} {ds} {k} o (of_datatype {i = i} {d = d} {ss = ss} h e b at as') (of_datatype {i = j} {ss = rs} g f c there bs) q =
      let (same, args) = same_data ds q h g e f in
      let place : i ≡ j = o i j d at (there ∙ ap (λ x. Some x) (sym same)) in
      ap (λ n. a_data n ss) place ∙ ap (a_data j) (all_one_shape o as' bs args)
  one_shape {names} {ds} {k} o (of_datatype h e b i as') (of_nothing g f) q = let z : ◌≡◌ {A = ℕ} 2 3 = one_class {names = names} {ds = ds} {k = k} q h (of_datatype h e b i as') (of_nothing g f) in absurd (omega (arith, z))
  one_shape {names} {ds} {k} o (of_datatype h e b i as') (of_fields g f gs) q = let z : ◌≡◌ {A = ℕ} 2 3 = one_class {names = names} {ds = ds} {k = k} q h (of_datatype h e b i as') (of_fields g f gs) in absurd (omega (arith, z))
  one_shape {names} {ds} {k} o (of_datatype h e b i as') (of_parameter g j) q = let z : ◌≡◌ {A = ℕ} 2 4 = one_class {names = names} {ds = ds} {k = k} q h (of_datatype h e b i as') (of_parameter g j) in absurd (omega (arith, z))
  one_shape {names} {ds} {k} o (of_nothing h e) (of_int g f) q = let z : ◌≡◌ {A = ℕ} 3 0 = one_class {names = names} {ds = ds} {k = k} q h (of_nothing h e) (of_int g f) in absurd (omega (arith, z))
  one_shape {names} {ds} {k} o (of_nothing h e) (of_text g f) q = let z : ◌≡◌ {A = ℕ} 3 1 = one_class {names = names} {ds = ds} {k = k} q h (of_nothing h e) (of_text g f) in absurd (omega (arith, z))
  one_shape {names} {ds} {k} o (of_nothing h e) (of_truth g f c) q = let z : ◌≡◌ {A = ℕ} 3 2 = one_class {names = names} {ds = ds} {k = k} q h (of_nothing h e) (of_truth g f c) in absurd (omega (arith, z))
  one_shape {names} {ds} {k} o (of_nothing h e) (of_datatype g f c j bs) q = let z : ◌≡◌ {A = ℕ} 3 2 = one_class {names = names} {ds = ds} {k = k} q h (of_nothing h e) (of_datatype g f c j bs) in absurd (omega (arith, z))
  one_shape {names} {ds} {k} o (of_nothing h e) (of_nothing g f) q = refl
  one_shape {names} {ds} {k} o (of_nothing h e) (of_fields g f gs) q = no_fields_there (sym e ∙ ap literal_fields (same_row q h g) ∙ f)
  one_shape {names} {ds} {k} o (of_nothing h e) (of_parameter g j) q = let z : ◌≡◌ {A = ℕ} 3 4 = one_class {names = names} {ds = ds} {k = k} q h (of_nothing h e) (of_parameter g j) in absurd (omega (arith, z))
  one_shape {names} {ds} {k} o (of_fields h e fs) (of_int g f) q = let z : ◌≡◌ {A = ℕ} 3 0 = one_class {names = names} {ds = ds} {k = k} q h (of_fields h e fs) (of_int g f) in absurd (omega (arith, z))
  one_shape {names} {ds} {k} o (of_fields h e fs) (of_text g f) q = let z : ◌≡◌ {A = ℕ} 3 1 = one_class {names = names} {ds = ds} {k = k} q h (of_fields h e fs) (of_text g f) in absurd (omega (arith, z))
  one_shape {names} {ds} {k} o (of_fields h e fs) (of_truth g f c) q = let z : ◌≡◌ {A = ℕ} 3 2 = one_class {names = names} {ds = ds} {k = k} q h (of_fields h e fs) (of_truth g f c) in absurd (omega (arith, z))
  one_shape {names} {ds} {k} o (of_fields h e fs) (of_datatype g f c j bs) q = let z : ◌≡◌ {A = ℕ} 3 2 = one_class {names = names} {ds = ds} {k = k} q h (of_fields h e fs) (of_datatype g f c j bs) in absurd (omega (arith, z))
  one_shape {names} {ds} {k} o (of_fields h e fs) (of_nothing g f) q = no_fields_there (sym f ∙ ap literal_fields (sym (same_row q h g)) ∙ e)
  one_shape {names} {ds} {k} o (of_fields h e fs) (of_fields g f gs) q = ap (λ ps. a_record (parts_of ps)) (fields_one_shape o fs gs (sym e ∙ ap literal_fields (same_row q h g) ∙ f))
  one_shape {names} {ds} {k} o (of_fields h e fs) (of_parameter g j) q = let z : ◌≡◌ {A = ℕ} 3 4 = one_class {names = names} {ds = ds} {k = k} q h (of_fields h e fs) (of_parameter g j) in absurd (omega (arith, z))
  one_shape {names} {ds} {k} o (of_parameter h i) (of_int g f) q = let z : ◌≡◌ {A = ℕ} 4 0 = one_class {names = names} {ds = ds} {k = k} q h (of_parameter h i) (of_int g f) in absurd (omega (arith, z))
  one_shape {names} {ds} {k} o (of_parameter h i) (of_text g f) q = let z : ◌≡◌ {A = ℕ} 4 1 = one_class {names = names} {ds = ds} {k = k} q h (of_parameter h i) (of_text g f) in absurd (omega (arith, z))
  one_shape {names} {ds} {k} o (of_parameter h i) (of_truth g f c) q = let z : ◌≡◌ {A = ℕ} 4 2 = one_class {names = names} {ds = ds} {k = k} q h (of_parameter h i) (of_truth g f c) in absurd (omega (arith, z))
  one_shape {names} {ds} {k} o (of_parameter h i) (of_datatype g f c j bs) q = let z : ◌≡◌ {A = ℕ} 4 2 = one_class {names = names} {ds = ds} {k = k} q h (of_parameter h i) (of_datatype g f c j bs) in absurd (omega (arith, z))
  one_shape {names} {ds} {k} o (of_parameter h i) (of_nothing g f) q = let z : ◌≡◌ {A = ℕ} 4 3 = one_class {names = names} {ds = ds} {k = k} q h (of_parameter h i) (of_nothing g f) in absurd (omega (arith, z))
  one_shape {names} {ds} {k} o (of_parameter h i) (of_fields g f gs) q = let z : ◌≡◌ {A = ℕ} 4 3 = one_class {names = names} {ds = ds} {k = k} q h (of_parameter h i) (of_fields g f gs) in absurd (omega (arith, z))
  one_shape {names} {ds} {k} o (of_parameter h i) (of_parameter g j) q = ap (λ n. parameter (k - suc n)) (same_variable q h g)

  all_one_shape : {names : List (List ℕ)} {ds : List Dt} {k : ℕ} {ts us : List Cn} {ss rs : Shs} → OnePlace ds → AllShaped names ds k ts ss → AllShaped names ds k us rs → ts ≡ us → ss ≡ rs
  all_one_shape o none_shaped none_shaped q = refl
  all_one_shape o none_shaped (one_shaped b bs) q = no_fields_there q
  all_one_shape o (one_shaped a as') none_shaped q = no_fields_there (sym q)
  all_one_shape o (one_shaped {ss = ss} a as') (one_shaped {s = r} b bs) q =
      ap (λ s. shape s ss) (one_shape o a b (heads q)) ∙ ap (shape r) (all_one_shape o as' bs (tails q))

  fields_one_shape : {names : List (List ℕ)} {ds : List Dt} {k : ℕ} {fs gs : List (ℕ × Cn)} {ps qs : List (List ℕ × Sh)} → OnePlace ds → FieldsShaped names ds k fs ps → FieldsShaped names ds k gs qs → fs ≡ gs → ps ≡ qs
  fields_one_shape o no_field_shaped no_field_shaped q = refl
  fields_one_shape o no_field_shaped (field_shaped f b bs) q = no_fields_there q
  fields_one_shape o (field_shaped e a as') no_field_shaped q = no_fields_there (sym q)
  fields_one_shape {names} o (field_shaped {s = s} {ps = ps} e a as') (field_shaped {name = n} {s = r} f b bs) q =
      let text = same_text names (ap (λ (z : ℕ × Cn). z.0) (heads q)) e f in
      let one = one_shape o a b (ap (λ (z : ℕ × Cn). z.1) (heads q)) in
      ap (λ m. put_part m s ps) text ∙ ap (λ x. put_part n x ps) one ∙ ap (put_part n r) (fields_one_shape o as' bs (tails q))

held_one_shape : {names : List (List ℕ)} {ds : List Dt} {k : ℕ} {h : Option Cn} {x y : Option Sh} → OnePlace ds → HeldShaped names ds k h x → HeldShaped names ds k h y → x ≡ y
held_one_shape o holds_nothing holds_nothing = refl
held_one_shape o (holds_one a) (holds_one b) = ap (λ s. Some s) (one_shape o a b refl)

one_case_each : {names : List (List ℕ)} {ds : List Dt} {k : ℕ} {cs : List Cd} {xs ys : Cases} → OnePlace ds → CasesShaped names ds k cs xs → CasesShaped names ds k cs ys → xs ≡ ys
one_case_each o no_case no_case = refl
one_case_each {names} {xs = xs} {ys = ys} o (a_case {held = x} {rest = rest} e h r) (a_case {name = n} {held = y} f g t) =
    ap (λ m. (m, x) ∷ rest) (same_text names refl e f) ∙ ap (λ z. (n, z) ∷ rest) (held_one_shape o h g) ∙ ap (λ zs. (n, y) ∷ zs) (one_case_each o r t)

pub one_shape_each : {names : List (List ℕ)} {all ds : List Dt} {xs ys : List Cases} → OnePlace all → DatatypesShaped names all ds xs → DatatypesShaped names all ds ys → xs ≡ ys
one_shape_each o no_datatype no_datatype = refl
one_shape_each o (carried {rest = rest} h r) (carried {cs = cs} g t) = ap (λ x. x ∷ rest) (one_case_each o h g) ∙ ap (λ xs. cs ∷ xs) (one_shape_each o r t)
one_shape_each o (carried h r) (not_carried g t) = absurd (g _ h)
one_shape_each o (not_carried h r) (carried g t) = absurd (h _ g)
one_shape_each o (not_carried h r) (not_carried g t) = ap (λ xs. [] ∷ xs) (one_shape_each o r t)
