-- The first shape of a type is one of its shapes, and where there is none the type has no shape.
use Rattle.std.proofs.Common.{◌≡◌, ℕ, zero, suc, ◌+◌, pos, List, [], ◌∷◌, Option, Some, None, slice_get, refl, ap, sym, subst, ◌∙◌, arith, FitsSigned, IsUtf8}
use Rattle.std.proofs.lemmas.Str.{IsUtf8-nil}
use Rattle.std.specs.Int.{w64}
use Rattle.con_terms.specs.Trees.{Cn}
use Rattle.core_terms.specs.Trees.{Cd, Dt}
use Rattle.core_terms.specs.Datatypes.{held_at}
use Rattle.core_typing.specs.Scopes.{normal_of}
use Rattle.core_typing.specs.Seen.{Seen, a_number, a_text, a_datatype, a_record, nothing_more, seen}
use Rattle.core_typing.specs.Cover.{Shp, bare_shape, holding_shape, record_shape, Shf, ShapeOf, deeper, no_more, of_number, of_text, of_bare, of_holding, of_record, ShapesOf, of_no_fields, of_field}
use Rattle.type_faults.specs.View.{shapes_from}
use Rattle.match_cover.specs.Misses.{First, no_shape, the_first, unknown_first, Firsts, no_shapes, the_firsts, unknown_firsts, first_held, first_built, first_before, first_fields, first_record, first_seen, first_shape, zipped}

-- what one shape of a type in normal form is made by
pub one_seen : (ds : List Dt) (t : Cn) {n m : Cn} {w : Seen} → normal_of t ≡ Some n → seen ds n ≡ w → normal_of t ≡ Some m → seen ds m ≡ w
one_seen ds t {n} {m} {w} h e g = let same : n ≡ m = cc in subst (λ x. seen ds x ≡ w) same e

abbrev pub FirstIs : List Dt → ℕ → Cn → First → Type 0
FirstIs ds d t no_shape = (s : Shp) → ShapeOf ds d t s → ⊥
FirstIs ds d t (the_first s) = ShapeOf ds d t s
FirstIs ds d t unknown_first = Unit {0}

abbrev pub FirstsAre : List Dt → ℕ → List (Cn × Cn) → Firsts → Type 0
FirstsAre ds d fs no_shapes = (ss : Shf) → ShapesOf ds d fs ss → ⊥
FirstsAre ds d fs (the_firsts ss) = ShapesOf ds d fs (shapes_from (zipped fs ss))
FirstsAre ds d fs unknown_firsts = Unit {0}

-- what a type tells, by the kind of it
abbrev seen_class : Seen → ℕ
seen_class a_number = 0
seen_class a_text = 1
seen_class (a_datatype x args) = 2
seen_class (a_record fs) = 3
seen_class nothing_more = 4

-- a shape of a datatype, or of a record
pub of_data : {P : Type 0} {ds : List Dt} {d : ℕ} {t : Cn} {x : Dt} {args : List Cn} {n : Cn} {s : Shp}
    → normal_of t ≡ Some n → seen ds n ≡ a_datatype x args
    → ((j : ℕ) (c : Cd) → slice_get x.constructors j ≡ Some c → c.holds ≡ None → s ≡ bare_shape x.symbol j → P)
    → ((j : ℕ) (c : Cd) (h : Cn) (g : Shp) → slice_get x.constructors j ≡ Some c → c.holds ≡ Some h → ShapeOf ds d (held_at args h) g → s ≡ holding_shape x.symbol j g → P)
    → ShapeOf ds (suc d) t s → P
of_data {ds = ds} {t = t} h e bare held (no_more g f) = let z : ◌≡◌ {A = ℕ} 2 4 = ap seen_class (sym (one_seen ds t h e g) ∙ f) in absurd (omega (arith, z))
of_data {ds = ds} {t = t} h e bare held (of_number g f y) = let z : ◌≡◌ {A = ℕ} 2 0 = ap seen_class (sym (one_seen ds t h e g) ∙ f) in absurd (omega (arith, z))
of_data {ds = ds} {t = t} h e bare held (of_text g f y) = let z : ◌≡◌ {A = ℕ} 2 1 = ap seen_class (sym (one_seen ds t h e g) ∙ f) in absurd (omega (arith, z))
of_data {ds = ds} {t = t} {x = x} {args = args} h e bare held (of_bare {j = j} {x = y} {args = more} {c = c} g f i k) =
    let z : a_datatype x args ≡ a_datatype y more = sym (one_seen ds t h e g) ∙ f in
    let same : x ≡ y = cc in
    bare j c (subst (λ (v : Dt). slice_get v.constructors j ≡ Some c) (sym same) i) k (ap (λ (v : Dt). bare_shape v.symbol j) (sym same))
of_data {ds = ds} {d = d} {t = t} {x = x} {args = args} h e bare held (of_holding {j = j} {held = u} {x = y} {args = more} {c = c} {s = s} g f i k q) =
    let z : a_datatype x args ≡ a_datatype y more = sym (one_seen ds t h e g) ∙ f in
    let same : x ≡ y = cc in
    let one : args ≡ more = cc in
    held j c u s (subst (λ (v : Dt). slice_get v.constructors j ≡ Some c) (sym same) i) k (subst (λ v. ShapeOf ds d (held_at v u) s) (sym one) q) (ap (λ (v : Dt). holding_shape v.symbol j s) (sym same))
of_data {ds = ds} {t = t} h e bare held (of_record g f q) = let z : ◌≡◌ {A = ℕ} 2 3 = ap seen_class (sym (one_seen ds t h e g) ∙ f) in absurd (omega (arith, z))

pub of_fields : {P : Type 0} {ds : List Dt} {d : ℕ} {t : Cn} {fs : List (Cn × Cn)} {n : Cn} {s : Shp}
    → normal_of t ≡ Some n → seen ds n ≡ a_record fs
    → ((ss : Shf) → ShapesOf ds d fs ss → s ≡ record_shape ss → P)
    → ShapeOf ds (suc d) t s → P
of_fields {ds = ds} {t = t} h e go (no_more g f) = let z : ◌≡◌ {A = ℕ} 3 4 = ap seen_class (sym (one_seen ds t h e g) ∙ f) in absurd (omega (arith, z))
of_fields {ds = ds} {t = t} h e go (of_number g f y) = let z : ◌≡◌ {A = ℕ} 3 0 = ap seen_class (sym (one_seen ds t h e g) ∙ f) in absurd (omega (arith, z))
of_fields {ds = ds} {t = t} h e go (of_text g f y) = let z : ◌≡◌ {A = ℕ} 3 1 = ap seen_class (sym (one_seen ds t h e g) ∙ f) in absurd (omega (arith, z))
of_fields {ds = ds} {t = t} h e go (of_bare g f i k) = let z : ◌≡◌ {A = ℕ} 3 2 = ap seen_class (sym (one_seen ds t h e g) ∙ f) in absurd (omega (arith, z))
of_fields {ds = ds} {t = t} h e go (of_holding g f i k q) = let z : ◌≡◌ {A = ℕ} 3 2 = ap seen_class (sym (one_seen ds t h e g) ∙ f) in absurd (omega (arith, z))
of_fields {ds = ds} {d = d} {t = t} {fs = fs} h e go (of_record {fs = gs} {ss = ss} g f q) =
    let z : a_record fs ≡ a_record gs = sym (one_seen ds t h e g) ∙ f in
    let same : fs ≡ gs = cc in
    go ss (subst (λ v. ShapesOf ds d v ss) (sym same) q) refl

-- fields
no_field : (ds : List Dt) (d : ℕ) (x t : Cn) (fs : List (Cn × Cn)) → ((s : Shp) → ShapeOf ds d t s → ⊥) → (r : Shf) → ShapesOf ds d ((x, t) ∷ fs) r → ⊥
no_field ds d x t fs h r (of_field {s = s} p q) = h s p

none_behind : (ds : List Dt) (d : ℕ) (x t : Cn) (fs : List (Cn × Cn)) → ((ss : Shf) → ShapesOf ds d fs ss → ⊥) → (r : Shf) → ShapesOf ds d ((x, t) ∷ fs) r → ⊥
none_behind ds d x t fs h r (of_field {ss = ss} p q) = h ss q

firsts_step : (ds : List Dt) (d : ℕ) (x t : Cn) (fs : List (Cn × Cn)) (o : First) (ss : List Shp) → FirstIs ds d t o → ShapesOf ds d fs (shapes_from (zipped fs ss)) → FirstsAre ds d ((x, t) ∷ fs) (first_before o ss)
firsts_step ds d x t fs no_shape ss h k = no_field ds d x t fs h
firsts_step ds d x t fs (the_first s) ss h k = of_field h k
firsts_step ds d x t fs unknown_first ss h k = tt

firsts_more : (ds : List Dt) (d : ℕ) (x t : Cn) (fs : List (Cn × Cn)) (o : First) (os : Firsts) → FirstIs ds d t o → FirstsAre ds d fs os
    → FirstsAre ds d ((x, t) ∷ fs) (elim os [ no_shapes ↦ no_shapes | the_firsts ss ↦ first_before o ss | unknown_firsts ↦ unknown_firsts ])
firsts_more ds d x t fs o no_shapes h k = none_behind ds d x t fs k
firsts_more ds d x t fs o (the_firsts ss) h k = firsts_step ds d x t fs o ss h k
firsts_more ds d x t fs o unknown_firsts h k = tt

fields_firsts : (ds : List Dt) (d : ℕ) (f : Cn → First) → ((t : Cn) → FirstIs ds d t (f t)) → (fs : List (Cn × Cn)) → FirstsAre ds d fs (first_fields f fs)
fields_firsts ds d f go [] = of_no_fields
fields_firsts ds d f go ((x, t) ∷ fs) = firsts_more ds d x t fs (f t) (first_fields f fs) (go t) (fields_firsts ds d f go fs)

record_first : (ds : List Dt) (d : ℕ) (t n : Cn) (fs : List (Cn × Cn)) (os : Firsts) → normal_of t ≡ Some n → seen ds n ≡ a_record fs → FirstsAre ds d fs os → FirstIs ds (suc d) t (first_record fs os)
record_first ds d t n fs no_shapes h e k = λ s q. of_fields h e (λ ss p i. k ss p) q
record_first ds d t n fs (the_firsts ss) h e k = of_record h e k
record_first ds d t n fs unknown_firsts h e k = tt

-- constructors: where none from a place on has a shape
abbrev pub BuiltIs : List Dt → ℕ → Cn → List Cn → List Cd → First → Type 0
BuiltIs ds d t args cs no_shape = (i : ℕ) (c : Cd) → slice_get cs i ≡ Some c → (h : Cn) → (c.holds ≡ None → ⊥) × (c.holds ≡ Some h → (s : Shp) → ShapeOf ds d (held_at args h) s → ⊥)
BuiltIs ds d t args cs (the_first s) = ShapeOf ds (suc d) t s
BuiltIs ds d t args cs unknown_first = Unit {0}

held_first : (ds : List Dt) (d : ℕ) (t : Cn) (args : List Cn) (c : Cd) (cs : List Cd) (f : Shp → Shp) (g : Cn) (o more : First)
    → c.holds ≡ Some g
    → ((s : Shp) → ShapeOf ds d (held_at args g) s → ShapeOf ds (suc d) t (f s))
    → FirstIs ds d (held_at args g) o
    → BuiltIs ds d t args cs more
    → BuiltIs ds d t args (c ∷ cs) (first_held f o more)
held_first ds d t args c cs f g (the_first s) more e put h k = put s h
held_first ds d t args c cs f g unknown_first more e put h k = tt
held_first ds d t args c cs f g no_shape (the_first s) e put h k = k
held_first ds d t args c cs f g no_shape unknown_first e put h k = tt
held_first ds d t args c cs f g no_shape no_shape e put h k = λ i b q. none_at i b q
  where
    at_first : (b : Cd) → Some c ≡ Some b → (u : Cn) → (b.holds ≡ None → ⊥) × (b.holds ≡ Some u → (s : Shp) → ShapeOf ds d (held_at args u) s → ⊥)
    at_first b q u =
        let same : c ≡ b = cc in (
          λ z. let w : Some g ≡ None = sym e ∙ ap (λ (v : Cd). v.holds) same ∙ z in cc,
          λ z s p.
              let w : Some g ≡ Some u = sym e ∙ ap (λ (v : Cd). v.holds) same ∙ z in
              let one : g ≡ u = cc in
              h s (subst (λ v. ShapeOf ds d (held_at args v) s) (sym one) p),
        )

    none_at : (i : ℕ) (b : Cd) → slice_get (c ∷ cs) i ≡ Some b → (u : Cn) → (b.holds ≡ None → ⊥) × (b.holds ≡ Some u → (s : Shp) → ShapeOf ds d (held_at args u) s → ⊥)
    none_at zero b q u = at_first b q u
    none_at (suc i) b q u = k i b q u

pub later : (all : List Cd) (c : Cd) (cs : List Cd) (j : ℕ) → ((i : ℕ) → slice_get all (j + i) ≡ slice_get (c ∷ cs) i) → (i : ℕ) → slice_get all (suc j + i) ≡ slice_get cs i
later all c cs j at i = let e : suc j + i ≡ j + suc i = omega arith in ap (slice_get all) e ∙ at (suc i)

pub now : (all : List Cd) (c : Cd) (cs : List Cd) (j : ℕ) → ((i : ℕ) → slice_get all (j + i) ≡ slice_get (c ∷ cs) i) → slice_get all j ≡ Some c
now all c cs j at = let e : j ≡ j + 0 = omega arith in ap (slice_get all) e ∙ at 0

built_step : (ds : List Dt) (d : ℕ) (t n : Cn) (x : Dt) (args : List Cn) (f : Cn → First) (c : Cd) (cs : List Cd) (j : ℕ) (o : Option Cn) (more : First)
    → ((u : Cn) → FirstIs ds d u (f u))
    → normal_of t ≡ Some n → seen ds n ≡ a_datatype x args
    → slice_get x.constructors j ≡ Some c → c.holds ≡ o
    → BuiltIs ds d t args cs more
    → BuiltIs ds d t args (c ∷ cs) (elim o [ None ↦ the_first (bare_shape x.symbol j) | Some h ↦ first_held (holding_shape x.symbol j) (f (held_at args h)) more ])
built_step ds d t n x args f c cs j None more go h e at k rest = of_bare h e at k
built_step ds d t n x args f c cs j (Some g) more go h e at k rest =
    held_first ds d t args c cs (holding_shape x.symbol j) g (f (held_at args g)) more k (λ s p. of_holding h e at k p) (go (held_at args g)) rest

none_some : {P X : Type 0} {c : X} → None ≡ Some c → P
none_some q = cc

built_first : (ds : List Dt) (d : ℕ) (t n : Cn) (x : Dt) (args : List Cn) (f : Cn → First)
    → ((u : Cn) → FirstIs ds d u (f u))
    → normal_of t ≡ Some n → seen ds n ≡ a_datatype x args
    → (cs : List Cd) (j : ℕ) → ((i : ℕ) → slice_get x.constructors (j + i) ≡ slice_get cs i)
    → BuiltIs ds d t args cs (first_built f x.symbol args cs j)
built_first ds d t n x args f go h e [] j at = λ i c q. none_some q
built_first ds d t n x args f go h e (c ∷ cs) j at =
    built_step ds d t n x args f c cs j c.holds (first_built f x.symbol args cs (suc j)) go h e (now x.constructors c cs j at) refl
    (built_first ds d t n x args f go h e cs (suc j) (later x.constructors c cs j at))

data_first : (ds : List Dt) (d : ℕ) (t n : Cn) (x : Dt) (args : List Cn) (o : First) → normal_of t ≡ Some n → seen ds n ≡ a_datatype x args → BuiltIs ds d t args x.constructors o → FirstIs ds (suc d) t o
data_first ds d t n x args no_shape h e k = λ s q. of_data h e (λ j c i z w. (k j c i t).0 z) (λ j c u g i z p w. (k j c i u).1 z g p) q
data_first ds d t n x args (the_first s) h e k = k
data_first ds d t n x args unknown_first h e k = tt

zero_fits : FitsSigned w64 (pos 0)
zero_fits = record { sfits = omega arith }

empty_text : IsUtf8 []
empty_text = IsUtf8-nil

pub from_none : (all : List Cd) (i : ℕ) → slice_get all (0 + i) ≡ slice_get all i
from_none all i = let e : 0 + i ≡ i = omega arith in ap (slice_get all) e

seen_first : (ds : List Dt) (d : ℕ) (t n : Cn) (f : Cn → First) (w : Seen) → ((u : Cn) → FirstIs ds d u (f u)) → normal_of t ≡ Some n → seen ds n ≡ w → FirstIs ds (suc d) t (first_seen f w)
seen_first ds d t n f a_number go h e = of_number h e zero_fits
seen_first ds d t n f a_text go h e = of_text h e empty_text
seen_first ds d t n f (a_datatype x args) go h e =
    data_first ds d t n x args (first_built f x.symbol args x.constructors 0) h e (built_first ds d t n x args f go h e x.constructors 0 (from_none x.constructors))
seen_first ds d t n f (a_record fs) go h e = record_first ds d t n fs (first_fields f fs) h e (fields_firsts ds d f go fs)
seen_first ds d t n f nothing_more go h e = no_more h e

form_first : (ds : List Dt) (d : ℕ) (t : Cn) (f : Cn → First) (o : Option Cn) → ((u : Cn) → FirstIs ds d u (f u)) → normal_of t ≡ o
    → FirstIs ds (suc d) t (elim o [ None ↦ unknown_first | Some n ↦ first_seen f (seen ds n) ])
form_first ds d t f None go h = tt
form_first ds d t f (Some n) go h = seen_first ds d t n f (seen ds n) go h refl

pub first_is : (ds : List Dt) (d : ℕ) (t : Cn) → FirstIs ds d t (first_shape ds d t)
first_is ds zero t = deeper
first_is ds (suc d) t = form_first ds d t (first_shape ds d) (normal_of t) (first_is ds d) refl
