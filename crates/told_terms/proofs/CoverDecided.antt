-- Whether patterns cover a type is decided: of all shapes of the type one is missed, or each is taken.
use Rattle.std.proofs.Common.{◌≡◌, ℕ, ℤ, zero, suc, ◌^◌, ◌<◌, pos, negsuc, Bool, true, false, List, [], ◌∷◌, length, Option, Some, None, slice_get, if◌then◌else◌, refl, ap, sym, subst, ◌∙◌, arith, ◌⊎◌, inl, inr, FitsSigned, IsUtf8, bytes_eq}
use Rattle.std.specs.Int.{w64}
use Rattle.std.specs.Str.{is_utf8}
use Rattle.std.proofs.lemmas.Bool.Decides.{eqb_tells}
use Rattle.std.proofs.lemmas.Option.{slice_get_within}
use Rattle.std.proofs.lemmas.Slice.Eq.{bytes_eq-Decides}
use Rattle.std.proofs.lemmas.Str.{IsUtf8-from_is_utf8, is_utf8-from_IsUtf8}
use Rattle.con_terms.specs.Trees.{Cn}
use Rattle.con_terms.specs.declared.place.Place.{Place}
use Rattle.core_terms.specs.Trees.{Pt, Cd, Dt}
use Rattle.core_terms.specs.Datatypes.{held_at}
use Rattle.core_typing.specs.Scopes.{Sc, normal_of}
use Rattle.core_typing.specs.Seen.{Seen, a_number, a_text, a_datatype, a_record, nothing_more, seen}
use Rattle.core_typing.specs.Cover.{Shp, leaf, number_shape, text_shape, bare_shape, holding_shape, record_shape, Shf, no_shape_fields, shape_field, ShapeOf, deeper, no_more, of_number, of_text, of_bare, of_holding, of_record, ShapesOf, of_no_fields, of_field, TooLargeIn, one_takes, patterns_depth, levels, Covers}
use Rattle.core_typing.specs.Faults.{Fault, too_large, inexhaustive}
use Rattle.core_typing.specs.Own.{Uncovered, misses, large_part}
use Rattle.core_typing.specs.FaultLaws.{CoverIsDecided}
use Rattle.core_typing.proofs.OneType.{one_value, held_alike}
use Rattle.match_cover.specs.Levels.{large_among}
use Rattle.match_cover.specs.Laws.{Tells}
use Rattle.match_cover.proofs.Large.{levels_tell}
use Rattle.told_terms.proofs.Tests.{no_value}
use Rattle.told_terms.proofs.Texts.{Words, among, another, another_text, texts_of, as_shape, as_fields, one_takes_as}

-- numbers below a bound: one is found, or none is there
pub searched : (X Y : ℕ → Type 0) → ((k : ℕ) → X k ⊎ Y k) → (n : ℕ) → ((k : ℕ) × (k < n) × X k) ⊎ ((k : ℕ) → k < n → Y k)
searched X Y go zero = inr (λ k h. absurd (omega (arith, h)))
searched X Y go (suc n) = one_more n (searched X Y go n) (go n)
  where
    last : (n k : ℕ) → ((i : ℕ) → i < n → Y i) → Y n → k < suc n → Y k
    last n k all y h = elim (eqb_tells k n) [
      | inl e ↦ subst Y (sym e.1) y
      | inr e ↦ let m = e.1 in all k (omega (arith, h, m))
    ]

    one_more : (n : ℕ) → ((k : ℕ) × (k < n) × X k) ⊎ ((k : ℕ) → k < n → Y k) → X n ⊎ Y n → ((k : ℕ) × (k < suc n) × X k) ⊎ ((k : ℕ) → k < suc n → Y k)
    one_more n (inl (k, h, x)) o = inl (k, omega (arith, h), x)
    one_more n (inr all) (inl x) = inl (n, omega arith, x)
    one_more n (inr all) (inr y) = inr (λ k h. last n k all y h)

by_test : (b : Bool) → (b ≡ false) ⊎ (b ≡ true)
by_test true = inr refl
by_test false = inl refl

is_so : {X Y : Type 0} → X ⊎ Y → Bool
is_so (inl x) = false
is_so (inr y) = true

left_of : {X Y : Type 0} (o : X ⊎ Y) → is_so o ≡ false → X
unfolding is_so
left_of (inl x) h = x
left_of (inr y) h = cc

right_of : {X Y : Type 0} (o : X ⊎ Y) → is_so o ≡ true → Y
unfolding is_so
right_of (inl x) h = cc
right_of (inr y) h = y

-- of the shapes of which S holds one fails a test, or all of them pass it as they stand for others
abbrev Outcome : Words → (Shp → Type 0) → (Shp → Bool) → Type 0
Outcome ws S P = ((s : Shp) × S s × (P s ≡ false)) ⊎ ((s : Shp) → S s → P (as_shape ws s) ≡ true)

abbrev Outcomes : Words → (Shf → Type 0) → (Shf → Bool) → Type 0
Outcomes ws S P = ((ss : Shf) × S ss × (P ss ≡ false)) ⊎ ((ss : Shf) → S ss → P (as_fields ws ss) ≡ true)

-- the shapes of a type by what it tells
data Built (ds : List Dt) (d : ℕ) (x : Dt) (args : List Cn) (j : ℕ) : Shp → Type 0 where
  built_bare : {c : Cd}
      → slice_get x.constructors j ≡ Some c
      → c.holds ≡ None
      → Built ds d x args j (bare_shape x.symbol j)
  built_holding : {c : Cd} {held : Cn} {s : Shp}
      → slice_get x.constructors j ≡ Some c
      → c.holds ≡ Some held
      → ShapeOf ds d (held_at args held) s
      → Built ds d x args j (holding_shape x.symbol j s)

data SeenShape (ds : List Dt) (d : ℕ) : Seen → Shp → Type 0 where
  sees_nothing : SeenShape ds d nothing_more leaf
  sees_number : {z : ℤ}
      → FitsSigned w64 z
      → SeenShape ds d a_number (number_shape z)
  sees_text : {w : List ℕ}
      → IsUtf8 w
      → SeenShape ds d a_text (text_shape w)
  sees_data : {x : Dt} {args : List Cn} {j : ℕ} {s : Shp}
      → Built ds d x args j s
      → SeenShape ds d (a_datatype x args) s
  sees_record : {fs : List (Cn × Cn)} {ss : Shf}
      → ShapesOf ds d fs ss
      → SeenShape ds d (a_record fs) (record_shape ss)

seen_so : (ds : List Dt) (t : Cn) {n m : Cn} {w : Seen} → normal_of t ≡ Some n → normal_of t ≡ Some m → seen ds m ≡ w → w ≡ seen ds n
seen_so ds t h k e = sym e ∙ ap (seen ds) (one_value k h)

to_seen : {ds : List Dt} {d : ℕ} {t n : Cn} {s : Shp} → normal_of t ≡ Some n → ShapeOf ds (suc d) t s → SeenShape ds d (seen ds n) s
to_seen {ds} {d} {t = t} h (no_more k e) = subst (λ w. SeenShape ds d w leaf) (seen_so ds t h k e) sees_nothing
to_seen {ds} {d} {t = t} h (of_number {z = z} k e f) = subst (λ w. SeenShape ds d w (number_shape z)) (seen_so ds t h k e) (sees_number f)
to_seen {ds} {d} {t = t} h (of_text {w = v} k e u) = subst (λ w. SeenShape ds d w (text_shape v)) (seen_so ds t h k e) (sees_text u)
to_seen {ds} {d} {t = t} h (of_bare {j = j} {x = x} k e c g) = subst (λ w. SeenShape ds d w (bare_shape x.symbol j)) (seen_so ds t h k e) (sees_data (built_bare c g))
to_seen {ds} {d} {t = t} h (of_holding {j = j} {x = x} {s = s} k e c g r) = subst (λ w. SeenShape ds d w (holding_shape x.symbol j s)) (seen_so ds t h k e) (sees_data (built_holding c g r))
to_seen {ds} {d} {t = t} h (of_record {ss = ss} k e r) = subst (λ w. SeenShape ds d w (record_shape ss)) (seen_so ds t h k e) (sees_record r)

from_built : {ds : List Dt} {d j : ℕ} {t n : Cn} {x : Dt} {args : List Cn} {s : Shp} → normal_of t ≡ Some n → seen ds n ≡ a_datatype x args → Built ds d x args j s → ShapeOf ds (suc d) t s
from_built h e (built_bare c g) = of_bare h e c g
from_built h e (built_holding c g r) = of_holding h e c g r

from_seen : {ds : List Dt} {d : ℕ} {t n : Cn} {w : Seen} {s : Shp} → normal_of t ≡ Some n → seen ds n ≡ w → SeenShape ds d w s → ShapeOf ds (suc d) t s
from_seen h e sees_nothing = no_more h e
from_seen h e (sees_number f) = of_number h e f
from_seen h e (sees_text u) = of_text h e u
from_seen h e (sees_data b) = from_built h e b
from_seen h e (sees_record r) = of_record h e r

-- nothing that is told, and the depth's end
nothing_there : (ws : Words) (ds : List Dt) (d : ℕ) (P : Shp → Bool) → Outcome ws (SeenShape ds d nothing_more) P
nothing_there ws ds d P = by_leaf (by_test (P leaf))
  where
    all : (s : Shp) → P leaf ≡ true → SeenShape ds d nothing_more s → P (as_shape ws s) ≡ true
    all s h sees_nothing = h

    by_leaf : (P leaf ≡ false) ⊎ (P leaf ≡ true) → Outcome ws (SeenShape ds d nothing_more) P
    by_leaf (inl h) = inl (leaf, sees_nothing, h)
    by_leaf (inr h) = inr (λ s x. all s h x)

only_leaf : (ws : Words) {ds : List Dt} {t : Cn} {s : Shp} (P : Shp → Bool) → P leaf ≡ true → ShapeOf ds zero t s → P (as_shape ws s) ≡ true
only_leaf ws P h deeper = h

at_depth : (ws : Words) (ds : List Dt) (t : Cn) (P : Shp → Bool) → (P leaf ≡ false) ⊎ (P leaf ≡ true) → Outcome ws (ShapeOf ds zero t) P
at_depth ws ds t P (inl h) = inl (leaf, deeper, h)
at_depth ws ds t P (inr h) = inr (λ s x. only_leaf ws P h x)

-- numbers
fits_pos : (k : ℕ) → k < 2 ^ 63 → FitsSigned w64 (pos k)
fits_pos k h = record { sfits = h }

fits_negsuc : (k : ℕ) → k < 2 ^ 63 → FitsSigned w64 (negsuc k)
fits_negsuc k h = record { sfits = h }

pos_below : (k : ℕ) → FitsSigned w64 (pos k) → k < 2 ^ 63
pos_below k h = h.sfits

negsuc_below : (k : ℕ) → FitsSigned w64 (negsuc k) → k < 2 ^ 63
negsuc_below k h = h.sfits

numbers : (ws : Words) (ds : List Dt) (d : ℕ) (P : Shp → Bool)
    → ((k : ℕ) × (k < 2 ^ 63) × (P (number_shape (pos k)) ≡ false)) ⊎ ((k : ℕ) → k < 2 ^ 63 → P (number_shape (pos k)) ≡ true)
    → ((k : ℕ) × (k < 2 ^ 63) × (P (number_shape (negsuc k)) ≡ false)) ⊎ ((k : ℕ) → k < 2 ^ 63 → P (number_shape (negsuc k)) ≡ true)
    → Outcome ws (SeenShape ds d a_number) P
numbers ws ds d P (inl (k, h, e)) o = inl (number_shape (pos k), sees_number (fits_pos k h), e)
numbers ws ds d P (inr all) (inl (k, h, e)) = inl (number_shape (negsuc k), sees_number (fits_negsuc k h), e)
numbers ws ds d P (inr all) (inr more) = inr (λ s x. each s x)
  where
    each : (s : Shp) → SeenShape ds d a_number s → P (as_shape ws s) ≡ true
    each s (sees_number {z = pos k} f) = all k (pos_below k f)
    each s (sees_number {z = negsuc k} f) = more k (negsuc_below k f)

all_numbers : (ws : Words) (ds : List Dt) (d : ℕ) (P : Shp → Bool) → Outcome ws (SeenShape ds d a_number) P
all_numbers ws ds d P =
    numbers ws ds d P
    (searched (λ k. P (number_shape (pos k)) ≡ false) (λ k. P (number_shape (pos k)) ≡ true) (λ k. by_test (P (number_shape (pos k)))) (2 ^ 63))
    (searched (λ k. P (number_shape (negsuc k)) ≡ false) (λ k. P (number_shape (negsuc k)) ≡ true) (λ k. by_test (P (number_shape (negsuc k)))) (2 ^ 63))

-- texts
abbrev TextsOut : (Shp → Bool) → Words → Type 0
TextsOut P vs = ((w : List ℕ) × IsUtf8 w × (P (text_shape w) ≡ false)) ⊎ ((w : List ℕ) → IsUtf8 w → among w vs ≡ true → P (text_shape w) ≡ true)

text_here : (P : Shp → Bool) (v w : List ℕ) (vs : Words) (b : Bool) → bytes_eq v w ≡ b → (v ≡ w → P (text_shape w) ≡ true) → (among w vs ≡ true → P (text_shape w) ≡ true) → (if b then true else among w vs) ≡ true → P (text_shape w) ≡ true
text_here P v w vs true e here go h = here ((bytes_eq-Decides v w).0 e)
text_here P v w vs false e here go h = go h

one_text : (P : Shp → Bool) (v : List ℕ) (vs : Words) → (is_utf8 v ≡ false) ⊎ (is_utf8 v ≡ true) → (P (text_shape v) ≡ false) ⊎ (P (text_shape v) ≡ true) → TextsOut P vs → TextsOut P (v ∷ vs)
one_text P v vs u o (inl x) = inl x
one_text P v vs (inr u) (inl e) (inr all) = inl (v, IsUtf8-from_is_utf8 v u, e)
one_text P v vs (inr u) (inr e) (inr all) = inr (λ w k h. text_here P v w vs (bytes_eq v w) refl (λ m. subst (λ (y : List ℕ). P (text_shape y) ≡ true) m e) (all w k) h)
one_text P v vs (inl u) o (inr all) = inr (λ w k h. text_here P v w vs (bytes_eq v w) refl (λ m. absurd (no_text w k m)) (all w k) h)
  where
    no_text : (w : List ℕ) → IsUtf8 w → v ≡ w → ⊥
    no_text w k m = let e = is_utf8-from_IsUtf8 v (subst IsUtf8 (sym m) k) in cc

texts_out : (P : Shp → Bool) (vs : Words) → TextsOut P vs
texts_out P [] = inr (λ w k h. none h)
  where
    none : {X : Type 0} → false ≡ true → X
    none h = cc
texts_out P (v ∷ vs) = one_text P v vs (by_test (is_utf8 v)) (by_test (P (text_shape v))) (texts_out P vs)

stood_by : (ws : Words) (P : Shp → Bool) (w : List ℕ) (b : Bool) → among w ws ≡ b → IsUtf8 w → P (text_shape (another ws)) ≡ true → ((v : List ℕ) → IsUtf8 v → among v ws ≡ true → P (text_shape v) ≡ true) → P (text_shape (if b then w else another ws)) ≡ true
stood_by ws P w true e u h all = all w u e
stood_by ws P w false e u h all = h

texts : (ws : Words) (ds : List Dt) (d : ℕ) (P : Shp → Bool) → (P (text_shape (another ws)) ≡ false) ⊎ (P (text_shape (another ws)) ≡ true) → TextsOut P ws → Outcome ws (SeenShape ds d a_text) P
texts ws ds d P (inl e) o = inl (text_shape (another ws), sees_text (another_text ws), e)
texts ws ds d P (inr h) (inl (w, u, e)) = inl (text_shape w, sees_text u, e)
texts ws ds d P (inr h) (inr all) = inr (λ s x. each s x)
  where
    each : (s : Shp) → SeenShape ds d a_text s → P (as_shape ws s) ≡ true
    each s (sees_text {w = w} u) = stood_by ws P w (among w ws) refl u h all

-- a constructor, and all of a datatype
abbrev Asked : Words → List Dt → ℕ → Type 0
Asked ws ds d = (t : Cn) (P : Shp → Bool) → Outcome ws (ShapeOf ds d t) P

not_held : {c b : Cd} {held : Cn} {o : Option Cd} → o ≡ Some c → o ≡ Some b → c.holds ≡ None → b.holds ≡ Some held → ⊥
not_held h k e g = no_value (ap (λ (z : Cd). z.holds) (one_value k h) ∙ e) g

bare_built : (ws : Words) (ds : List Dt) (d : ℕ) (x : Dt) (args : List Cn) (j : ℕ) (c : Cd) (P : Shp → Bool) (s : Shp) → slice_get x.constructors j ≡ Some c → c.holds ≡ None → P (bare_shape x.symbol j) ≡ true → Built ds d x args j s → P (as_shape ws s) ≡ true
bare_built ws ds d x args j c P s h e k (built_bare i g) = k
bare_built ws ds d x args j c P s h e k (built_holding i g r) = absurd (not_held h i e g)

holding_built : (ws : Words) (ds : List Dt) (d : ℕ) (x : Dt) (args : List Cn) (j : ℕ) (c : Cd) (held : Cn) (P : Shp → Bool) (s : Shp) → slice_get x.constructors j ≡ Some c → c.holds ≡ Some held → ((h : Shp) → ShapeOf ds d (held_at args held) h → P (holding_shape x.symbol j (as_shape ws h)) ≡ true) → Built ds d x args j s → P (as_shape ws s) ≡ true
holding_built ws ds d x args j c held P s h e k (built_bare i g) = absurd (not_held i h g e)
holding_built ws ds d x args j c held P s h e k (built_holding {s = r} i g w) = k r (subst (λ z. ShapeOf ds d (held_at args z) r) (held_alike (one_value i h) g e) w)

none_built : (ws : Words) (ds : List Dt) (d : ℕ) (x : Dt) (args : List Cn) (j : ℕ) (P : Shp → Bool) (s : Shp) → slice_get x.constructors j ≡ None → Built ds d x args j s → P (as_shape ws s) ≡ true
none_built ws ds d x args j P s h (built_bare i g) = absurd (no_value h i)
none_built ws ds d x args j P s h (built_holding i g w) = absurd (no_value h i)

bare_out : (ws : Words) (ds : List Dt) (d : ℕ) (x : Dt) (args : List Cn) (j : ℕ) (c : Cd) (P : Shp → Bool) → slice_get x.constructors j ≡ Some c → c.holds ≡ None → (P (bare_shape x.symbol j) ≡ false) ⊎ (P (bare_shape x.symbol j) ≡ true) → Outcome ws (Built ds d x args j) P
bare_out ws ds d x args j c P h e (inl k) = inl (bare_shape x.symbol j, built_bare h e, k)
bare_out ws ds d x args j c P h e (inr k) = inr (λ s y. bare_built ws ds d x args j c P s h e k y)

holding_out : (ws : Words) (ds : List Dt) (d : ℕ) (x : Dt) (args : List Cn) (j : ℕ) (c : Cd) (held : Cn) (P : Shp → Bool) → slice_get x.constructors j ≡ Some c → c.holds ≡ Some held → Outcome ws (ShapeOf ds d (held_at args held)) (λ h. P (holding_shape x.symbol j h)) → Outcome ws (Built ds d x args j) P
holding_out ws ds d x args j c held P h e (inl (s, w, k)) = inl (holding_shape x.symbol j s, built_holding h e w, k)
holding_out ws ds d x args j c held P h e (inr k) = inr (λ s y. holding_built ws ds d x args j c held P s h e k y)

by_held : (ws : Words) (ds : List Dt) (d : ℕ) (x : Dt) (args : List Cn) (j : ℕ) (c : Cd) (P : Shp → Bool) (o : Option Cn) → Asked ws ds d → slice_get x.constructors j ≡ Some c → c.holds ≡ o → Outcome ws (Built ds d x args j) P
by_held ws ds d x args j c P None go h e = bare_out ws ds d x args j c P h e (by_test (P (bare_shape x.symbol j)))
by_held ws ds d x args j c P (Some held) go h e = holding_out ws ds d x args j c held P h e (go (held_at args held) (λ s. P (holding_shape x.symbol j s)))

one_built : (ws : Words) (ds : List Dt) (d : ℕ) (x : Dt) (args : List Cn) (j : ℕ) (P : Shp → Bool) (o : Option Cd) → Asked ws ds d → slice_get x.constructors j ≡ o → Outcome ws (Built ds d x args j) P
one_built ws ds d x args j P None go h = inr (λ s y. none_built ws ds d x args j P s h y)
one_built ws ds d x args j P (Some c) go h = by_held ws ds d x args j c P c.holds go h refl

place_below : {ds : List Dt} {d j : ℕ} {x : Dt} {args : List Cn} {s : Shp} → Built ds d x args j s → j < length x.constructors
place_below {j = j} {x = x} (built_bare {c = c} h g) = slice_get_within x.constructors j c h
place_below {j = j} {x = x} (built_holding {c = c} h g w) = slice_get_within x.constructors j c h

abbrev OneBuilt : List Dt → ℕ → Dt → List Cn → (Shp → Bool) → ℕ → Type 0
OneBuilt ds d x args P j = (s : Shp) × Built ds d x args j s × (P s ≡ false)

abbrev AllBuilt : Words → List Dt → ℕ → Dt → List Cn → (Shp → Bool) → ℕ → Type 0
AllBuilt ws ds d x args P j = (s : Shp) → Built ds d x args j s → P (as_shape ws s) ≡ true

datatypes_out : (ws : Words) (ds : List Dt) (d : ℕ) (x : Dt) (args : List Cn) (P : Shp → Bool) → ((j : ℕ) × (j < length x.constructors) × OneBuilt ds d x args P j) ⊎ ((j : ℕ) → j < length x.constructors → AllBuilt ws ds d x args P j) → Outcome ws (SeenShape ds d (a_datatype x args)) P
datatypes_out ws ds d x args P (inl (j, h, (s, w, e))) = inl (s, sees_data w, e)
datatypes_out ws ds d x args P (inr all) = inr (λ s y. each s y)
  where
    each : (s : Shp) → SeenShape ds d (a_datatype x args) s → P (as_shape ws s) ≡ true
    each s (sees_data {j = j} b) = all j (place_below b) s b

all_built : (ws : Words) (ds : List Dt) (d : ℕ) (x : Dt) (args : List Cn) (P : Shp → Bool) → Asked ws ds d → Outcome ws (SeenShape ds d (a_datatype x args)) P
all_built ws ds d x args P go =
    datatypes_out ws ds d x args P
    (searched (OneBuilt ds d x args P) (AllBuilt ws ds d x args P) (λ j. one_built ws ds d x args j P (slice_get x.constructors j) go refl) (length x.constructors))

-- fields
no_fields_out : (ws : Words) (ds : List Dt) (d : ℕ) (P : Shf → Bool) → (P no_shape_fields ≡ false) ⊎ (P no_shape_fields ≡ true) → Outcomes ws (ShapesOf ds d []) P
no_fields_out ws ds d P (inl e) = inl (no_shape_fields, of_no_fields, e)
no_fields_out ws ds d P (inr e) = inr (λ ss y. each ss y)
  where
    each : (ss : Shf) → ShapesOf ds d [] ss → P (as_fields ws ss) ≡ true
    each ss of_no_fields = e

one_field : (ws : Words) (ds : List Dt) (d : ℕ) (x t : Cn) (fs : List (Cn × Cn)) (P : Shf → Bool) (go : (Q : Shf → Bool) → Outcomes ws (ShapesOf ds d fs) Q) → Outcome ws (ShapeOf ds d t) (λ s. is_so (go (λ ss. P (shape_field x s ss)))) → Outcomes ws (ShapesOf ds d ((x, t) ∷ fs)) P
one_field ws ds d x t fs P go (inl (s, w, e)) = behind (left_of (go (λ ss. P (shape_field x s ss))) e)
  where
    behind : ((ss : Shf) × ShapesOf ds d fs ss × (P (shape_field x s ss) ≡ false)) → Outcomes ws (ShapesOf ds d ((x, t) ∷ fs)) P
    behind (ss, v, k) = inl (shape_field x s ss, of_field w v, k)
one_field ws ds d x t fs P go (inr all) = inr (λ ss y. each ss y)
  where
    each : (ss : Shf) → ShapesOf ds d ((x, t) ∷ fs) ss → P (as_fields ws ss) ≡ true
    each ss (of_field {s = s} {ss = more} w v) = right_of (go (λ z. P (shape_field x (as_shape ws s) z))) (all s w) more v

all_fields : (ws : Words) (ds : List Dt) (d : ℕ) (fs : List (Cn × Cn)) → Asked ws ds d → (P : Shf → Bool) → Outcomes ws (ShapesOf ds d fs) P
all_fields ws ds d [] go P = no_fields_out ws ds d P (by_test (P no_shape_fields))
all_fields ws ds d ((x, t) ∷ fs) go P =
    one_field ws ds d x t fs P (λ Q. all_fields ws ds d fs go Q) (go t (λ s. is_so (all_fields ws ds d fs go (λ ss. P (shape_field x s ss)))))

record_out : (ws : Words) (ds : List Dt) (d : ℕ) (fs : List (Cn × Cn)) (P : Shp → Bool) → Outcomes ws (ShapesOf ds d fs) (λ ss. P (record_shape ss)) → Outcome ws (SeenShape ds d (a_record fs)) P
record_out ws ds d fs P (inl (ss, w, e)) = inl (record_shape ss, sees_record w, e)
record_out ws ds d fs P (inr all) = inr (λ s y. each s y)
  where
    each : (s : Shp) → SeenShape ds d (a_record fs) s → P (as_shape ws s) ≡ true
    each s (sees_record {ss = ss} w) = all ss w

-- a type
by_seen : (ws : Words) (ds : List Dt) (d : ℕ) (w : Seen) (P : Shp → Bool) → Asked ws ds d → Outcome ws (SeenShape ds d w) P
by_seen ws ds d nothing_more P go = nothing_there ws ds d P
by_seen ws ds d a_number P go = all_numbers ws ds d P
by_seen ws ds d a_text P go = texts ws ds d P (by_test (P (text_shape (another ws)))) (texts_out P ws)
by_seen ws ds d (a_datatype x args) P go = all_built ws ds d x args P go
by_seen ws ds d (a_record fs) P go = record_out ws ds d fs P (all_fields ws ds d fs go (λ ss. P (record_shape ss)))

of_seen : (ws : Words) (ds : List Dt) (d : ℕ) (t n : Cn) (P : Shp → Bool) → normal_of t ≡ Some n → Outcome ws (SeenShape ds d (seen ds n)) P → Outcome ws (ShapeOf ds (suc d) t) P
of_seen ws ds d t n P h (inl (s, w, e)) = inl (s, from_seen h refl w, e)
of_seen ws ds d t n P h (inr all) = inr (λ s y. all s (to_seen h y))

no_shape : {ds : List Dt} {d : ℕ} {t : Cn} {s : Shp} → normal_of t ≡ None → ShapeOf ds (suc d) t s → ⊥
no_shape h (no_more k e) = no_value h k
no_shape h (of_number k e f) = no_value h k
no_shape h (of_text k e u) = no_value h k
no_shape h (of_bare k e c g) = no_value h k
no_shape h (of_holding k e c g r) = no_value h k
no_shape h (of_record k e r) = no_value h k

by_form : (ws : Words) (ds : List Dt) (d : ℕ) (t : Cn) (P : Shp → Bool) (o : Option Cn) → Asked ws ds d → normal_of t ≡ o → Outcome ws (ShapeOf ds (suc d) t) P
by_form ws ds d t P None go h = inr (λ s y. absurd (no_shape h y))
by_form ws ds d t P (Some n) go h = of_seen ws ds d t n P h (by_seen ws ds d (seen ds n) P go)

shapes_out : (ws : Words) (ds : List Dt) (d : ℕ) → Asked ws ds d
shapes_out ws ds zero = λ t P. at_depth ws ds t P (by_test (P leaf))
shapes_out ws ds (suc d) = λ t P. by_form ws ds d t P (normal_of t) (shapes_out ws ds d) refl

-- patterns
small_covers : (G : Sc) (p : Place) (ps : List Pt) (t : Cn) → (TooLargeIn G.datatypes (levels ps) t → ⊥) → Outcome (texts_of ps) (ShapeOf G.datatypes (patterns_depth ps) t) (one_takes ps) → Covers G.datatypes ps t ⊎ ((f : Fault) × Uncovered G p ps t f)
small_covers G p ps t h (inl (s, w, e)) = inr (inexhaustive p G.called s, misses h (record { shape = w; missed = e }))
small_covers G p ps t h (inr all) = inl (record { small = h; taken = λ s w. sym (one_takes_as (texts_of ps) ps (λ v k. k) s) ∙ all s w })

by_size : (G : Sc) (p : Place) (ps : List Pt) (t : Cn) (b : Bool) → Tells G.datatypes (levels ps) t b → Covers G.datatypes ps t ⊎ ((f : Fault) × Uncovered G p ps t f)
by_size G p ps t true h = inr (too_large p, large_part h)
by_size G p ps t false h = small_covers G p ps t h (shapes_out (texts_of ps) G.datatypes (patterns_depth ps) t (one_takes ps))

pub cover_decided : CoverIsDecided
cover_decided G p ps t = by_size G p ps t (large_among G.datatypes (levels ps) (t ∷ [])) (levels_tell G.datatypes (levels ps) t)
