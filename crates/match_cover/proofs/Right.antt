-- What the computed answer says is so.
use Rattle.std.proofs.Common.{◌≡◌, ℕ, zero, suc, ◌+◌, ◌-◌, ◌/◌, ◌%◌, ◌<◌, ◌≤◌, nat_lt, pos, Bool, true, false, List, [], ◌∷◌, Option, Some, None, slice_get, if◌then◌else◌, refl, ap, sym, subst, ◌∙◌, arith, ◌⊎◌, inl, inr, FitsSigned, IsUtf8, IsAscii}
use Rattle.std.proofs.lemmas.Str.{IsUtf8-from_ascii}
use Rattle.std.proofs.lemmas.Str.Ascii.{IsAscii-nil}
use Rattle.std.specs.Int.{w64}
use Rattle.con_terms.specs.Trees.{Cn}
use Rattle.core_terms.specs.Trees.{Cd, Dt}
use Rattle.core_terms.specs.Datatypes.{held_at}
use Rattle.core_typing.specs.Scopes.{normal_of}
use Rattle.core_typing.specs.Seen.{Seen, a_number, a_text, a_datatype, a_record, nothing_more, seen}
use Rattle.core_typing.specs.Cover.{Shp, bare_shape, holding_shape, record_shape, Shf, no_shape_fields, shape_field, ShapeOf, of_number, of_text, of_bare, of_holding, of_record, ShapesOf, of_no_fields, of_field}
use Rattle.type_faults.specs.View.{shapes_from}
use Rattle.match_cover.specs.Rows.{Row, one_passes, one_is_free, heads_are_free, kept, tails, inside, opened}
use Rattle.match_cover.specs.Misses.{Column, Out, covered, missed, no_room, First, no_shape, the_first, unknown_first, zipped, behind_fields, first_shape, then_shape, or_else, tried, tried_first, nth_bytes, nth_literal, literals, literal_count, wrapped, gathered, columns_at, Ask, held_cases, built_cases, by_seen, split, at_columns, misses}
use Rattle.match_cover.proofs.Heads.{kept_tells, free_tells, one_free_passes, none_left, inside_tells}
use Rattle.match_cover.proofs.OverLiterals.{count_is}
use Rattle.match_cover.proofs.Parts.{Enough, opened_tells}
use Rattle.match_cover.proofs.Firsts.{FirstIs, first_is, of_data, of_fields, later, now, from_none}
use Rattle.std.proofs.lemmas.Bool.{ltb-true as lt_of}

-- shapes, one a column
pub data Fits (ds : List Dt) : List Column → List Shp → Type 0 where
  fits_none : Fits ds [] []
  fits_more : {d : ℕ} {t : Cn} {cols : List Column} {s : Shp} {ss : List Shp}
      → ShapeOf ds d t s
      → Fits ds cols ss
      → Fits ds ((d, t) ∷ cols) (s ∷ ss)

-- shapes that pass no row
pub record Missing (ds : List Dt) (cols : List Column) (rows : List Row) (ss : List Shp) : Type 0 where
  pub fits : Fits ds cols ss
  pub passed : one_passes rows ss ≡ false

abbrev pub Right : List Dt → List Column → List Row → Out → Type 0
Right ds cols rows covered = (ss : List Shp) → Fits ds cols ss → one_passes rows ss ≡ true
Right ds cols rows (missed ss) = Missing ds cols rows ss
Right ds cols rows no_room = Unit {0}

-- the same of some shapes of the first column
abbrev pub RightOf : List Dt → (Shp → Type 0) → Column → List Column → List Row → Out → Type 0
RightOf ds P c rest rows covered = (s : Shp) (ss : List Shp) → P s → ShapeOf ds c.0 c.1 s → Fits ds rest ss → one_passes rows (s ∷ ss) ≡ true
RightOf ds P c rest rows (missed ss) = Missing ds (c ∷ rest) rows ss
RightOf ds P c rest rows no_room = Unit {0}

abbrev pub Each : Shp → Type 0
Each s = Unit {0}

first_of : (ds : List Dt) (d : ℕ) (t : Cn) (rest : List Column) (rows : List Row) → RightOf ds Each (d, t) rest rows covered → (ss : List Shp) → Fits ds ((d, t) ∷ rest) ss → one_passes rows ss ≡ true
first_of ds d t rest rows h ss (fits_more {s = s} {ss = more} p q) = h s more tt p q

all_of : (ds : List Dt) (d : ℕ) (t : Cn) (rest : List Column) (rows : List Row) (o : Out) → RightOf ds Each (d, t) rest rows o → Right ds ((d, t) ∷ rest) rows o
all_of ds d t rest rows covered h = first_of ds d t rest rows h
all_of ds d t rest rows (missed ss) h = h
all_of ds d t rest rows no_room h = tt

-- what holds of more shapes holds of fewer
fewer : (ds : List Dt) (P Q : Shp → Type 0) (c : Column) (rest : List Column) (rows : List Row) (o : Out) → ((s : Shp) → Q s → P s) → RightOf ds P c rest rows o → RightOf ds Q c rest rows o
fewer ds P Q c rest rows covered go h = λ s ss q p f. h s ss (go s q) p f
fewer ds P Q c rest rows (missed ss) go h = h
fewer ds P Q c rest rows no_room go h = tt

-- what is missed behind a shape
before_missed : (ds : List Dt) (c : Column) (rest : List Column) (rows : List Row) (s : Shp) (ss : List Shp) → ShapeOf ds c.0 c.1 s → Missing ds rest (tails (kept s rows)) ss → Missing ds (c ∷ rest) rows (s ∷ ss)
before_missed ds c rest rows s ss p m = record { fits = fits_more p m.fits; passed = sym (kept_tells s ss rows) ∙ m.passed }

-- a shape that tells of all
decides : (ds : List Dt) (P : Shp → Type 0) (c : Column) (rest : List Column) (rows : List Row) (s : Shp) (o : Out) → ShapeOf ds c.0 c.1 s → heads_are_free (kept s rows) ≡ true → Right ds rest (tails (kept s rows)) o → RightOf ds P c rest rows (then_shape s o)
decides ds P c rest rows s covered p h k = λ r ss w q f. free_tells s r ss rows h (sym (kept_tells s ss rows) ∙ k ss f)
decides ds P c rest rows s (missed ss) p h k = before_missed ds c rest rows s ss p k
decides ds P c rest rows s no_room p h k = tt

-- one of several: a shape, or one of those that are looked at behind it
one_or_more : (ds : List Dt) (P : Shp → Type 0) (c : Column) (rest : List Column) (rows : List Row) (s : Shp) → Right ds rest (tails (kept s rows)) covered → RightOf ds P c rest rows covered
    → (r : Shp) (ss : List Shp) → ShapeOf ds c.0 c.1 r → Fits ds rest ss → (r ≡ s) ⊎ P r → one_passes rows (r ∷ ss) ≡ true
one_or_more ds P c rest rows s k m r ss q f (inl e) = subst (λ v. one_passes rows (v ∷ ss) ≡ true) (sym e) (sym (kept_tells s ss rows) ∙ k ss f)
one_or_more ds P c rest rows s k m r ss q f (inr w) = m r ss w q f

tried_step : (ds : List Dt) (P Q : Shp → Type 0) (c : Column) (rest : List Column) (rows : List Row) (s : Shp) (o more : Out) (b : Bool)
    → ShapeOf ds c.0 c.1 s → heads_are_free (kept s rows) ≡ b
    → Right ds rest (tails (kept s rows)) o
    → RightOf ds P c rest rows more
    → ((r : Shp) → Q r → (r ≡ s) ⊎ P r)
    → RightOf ds Q c rest rows (or_else (then_shape s o) (if b then covered else more))
tried_step ds P Q c rest rows s (missed ss) more b p h k m go = before_missed ds c rest rows s ss p k
tried_step ds P Q c rest rows s no_room more b p h k m go = tt
tried_step ds P Q c rest rows s covered more true p h k m go = decides ds Q c rest rows s covered p h k
tried_step ds P Q c rest rows s covered (missed ss) false p h k m go = m
tried_step ds P Q c rest rows s covered no_room false p h k m go = tt
tried_step ds P Q c rest rows s covered covered false p h k m go = λ r ss w q f. one_or_more ds P c rest rows s k m r ss q f (go r w)

pub tried_right : (ds : List Dt) (P Q : Shp → Type 0) (c : Column) (rest : List Column) (rows : List Row) (s : Shp) (k : List Row → Out) (more : Out)
    → ShapeOf ds c.0 c.1 s
    → ((rs : List Row) → Right ds rest rs (k rs))
    → RightOf ds P c rest rows more
    → ((r : Shp) → Q r → (r ≡ s) ⊎ P r)
    → RightOf ds Q c rest rows (tried k s rows more)
tried_right ds P Q c rest rows s k more p ask m go =
    tried_step ds P Q c rest rows s (k (tails (kept s rows))) more (heads_are_free (kept s rows)) p refl (ask (tails (kept s rows))) m go

-- the first shape, and what more is looked at
first_step : (ds : List Dt) (P : Shp → Type 0) (c : Column) (rest : List Column) (rows : List Row) (s : Shp) (k : List Row → Out) (more : Out) (b : Bool)
    → ShapeOf ds c.0 c.1 s → heads_are_free (kept s rows) ≡ b
    → ((rs : List Row) → Right ds rest rs (k rs))
    → RightOf ds P c rest rows more
    → RightOf ds P c rest rows (if b then then_shape s (k (tails (kept s rows))) else more)
first_step ds P c rest rows s k more true p h ask m = decides ds P c rest rows s (k (tails (kept s rows))) p h (ask (tails (kept s rows)))
first_step ds P c rest rows s k more false p h ask m = m

pub first_right : (ds : List Dt) (P : Shp → Type 0) (e : ℕ) (u : Cn) (c : Column) (rest : List Column) (rows : List Row) (f : Shp → Shp) (k : List Row → Out) (none more : Out) (o : First)
    → FirstIs ds e u o
    → ((s : Shp) → ShapeOf ds e u s → ShapeOf ds c.0 c.1 (f s))
    → ((rs : List Row) → Right ds rest rs (k rs))
    → (((s : Shp) → ShapeOf ds e u s → ⊥) → RightOf ds P c rest rows none)
    → RightOf ds P c rest rows more
    → RightOf ds P c rest rows (tried_first k o f rows none more)
first_right ds P e u c rest rows f k none more no_shape h put ask z m = z h
first_right ds P e u c rest rows f k none more (the_first s) h put ask z m = first_step ds P c rest rows (f s) k more (heads_are_free (kept (f s) rows)) (put s h) refl ask m
first_right ds P e u c rest rows f k none more unknown_first h put ask z m = tt

-- literals
literals_right : (ds : List Dt) (c : Column) (rest : List Column) (rows : List Row) (words : Bool) (k : List Row → Out)
    → ((rs : List Row) → Right ds rest rs (k rs))
    → (n z : ℕ)
    → ((i : ℕ) → i < z + n → ShapeOf ds c.0 c.1 (nth_literal words i))
    → RightOf ds Each c rest rows (literals k words rows n z)
literals_right ds c rest rows words k ask zero z one = tt
literals_right ds c rest rows words k ask (suc n) z one =
    tried_right ds Each Each c rest rows (nth_literal words z) k (literals k words rows n (suc z)) (one z (omega arith)) ask
    (literals_right ds c rest rows words k ask n (suc z) (λ i h. one i (omega (arith, h)))) (λ r w. inr tt)

-- constructors: those from a place on
abbrev pub place_in : Shp → ℕ
place_in (bare_shape s j) = j
place_in (holding_shape s j h) = j
place_in _ = 0

abbrev pub From : ℕ → Shp → Type 0
From j s = j ≤ place_in s

-- what a constructor makes, or one of the shapes that are looked at behind it
held_or_more : (ds : List Dt) (P : Shp → Type 0) (d : ℕ) (t u : Cn) (s j : ℕ) (rest : List Column) (rows : List Row) → Right ds ((d, u) ∷ rest) (inside s j rows) covered → RightOf ds P (suc d, t) rest rows covered
    → (r : Shp) (ss : List Shp) → ShapeOf ds (suc d) t r → Fits ds rest ss → ((g : Shp) × (ShapeOf ds d u g) × (r ≡ holding_shape s j g)) ⊎ P r → one_passes rows (r ∷ ss) ≡ true
held_or_more ds P d t u s j rest rows k m r ss q f (inl (g, p, e)) = subst (λ v. one_passes rows (v ∷ ss) ≡ true) (sym e) (sym (inside_tells s j g ss rows) ∙ k (g ∷ ss) (fits_more p f))
held_or_more ds P d t u s j rest rows k m r ss q f (inr w) = m r ss w q f

-- what is missed behind a constructor's part
wrapped_right : (ds : List Dt) (P Q : Shp → Type 0) (d : ℕ) (t u : Cn) (s j : ℕ) (rest : List Column) (rows : List Row) (o more : Out)
    → ((g : Shp) → ShapeOf ds d u g → ShapeOf ds (suc d) t (holding_shape s j g))
    → Right ds ((d, u) ∷ rest) (inside s j rows) o
    → RightOf ds P (suc d, t) rest rows more
    → ((r : Shp) → Q r → ShapeOf ds (suc d) t r → ((g : Shp) × (ShapeOf ds d u g) × (r ≡ holding_shape s j g)) ⊎ P r)
    → RightOf ds Q (suc d, t) rest rows (or_else (wrapped s j o) more)
wrapped_right ds P Q d t u s j rest rows no_room more put k m go = tt
wrapped_right ds P Q d t u s j rest rows (missed []) more put k m go = tt
wrapped_right ds P Q d t u s j rest rows (missed (h ∷ ss)) more put k m go = whole k.fits k.passed
  where
    whole : Fits ds ((d, u) ∷ rest) (h ∷ ss) → one_passes (inside s j rows) (h ∷ ss) ≡ false → Missing ds ((suc d, t) ∷ rest) rows (holding_shape s j h ∷ ss)
    whole (fits_more p q) e = record { fits = fits_more (put h p) q; passed = sym (inside_tells s j h ss rows) ∙ e }
wrapped_right ds P Q d t u s j rest rows covered (missed ss) put k m go = m
wrapped_right ds P Q d t u s j rest rows covered no_room put k m go = tt
wrapped_right ds P Q d t u s j rest rows covered covered put k m go = λ r ss w q f. held_or_more ds P d t u s j rest rows k m r ss q f (go r w q)

-- which constructor a shape of a datatype is made by: this one, or a later one
at_place : (all : List Cd) (j i : ℕ) (c b : Cd) → slice_get all j ≡ Some c → slice_get all i ≡ Some b → i ≡ j → c ≡ b
at_place all j i c b h k e = let both : Some c ≡ Some b = sym h ∙ ap (slice_get all) (sym e) ∙ k in cc

here_or_later : (i j : ℕ) → j ≤ i → (i ≡ j) ⊎ (suc j ≤ i)
here_or_later i zero h = zero_or i
  where
    zero_or : (i : ℕ) → (i ≡ 0) ⊎ (1 ≤ i)
    zero_or zero = inl refl
    zero_or (suc i) = inr (omega arith)
here_or_later zero (suc j) h = absurd (omega (arith, h))
here_or_later (suc i) (suc j) h = elim (here_or_later i j (omega (arith, h))) [ inl e ↦ inl (ap suc e) | inr k ↦ inr (omega (arith, k)) ]

none_some : {y : Cn} → None ≡ Some y → ⊥
none_some q = cc

some_none : {y : Cn} → Some y ≡ None → ⊥
some_none q = cc

-- a bare constructor
bare_or_later : (ds : List Dt) (d : ℕ) (t n : Cn) (x : Dt) (args : List Cn) (c : Cd) (j : ℕ)
    → normal_of t ≡ Some n → seen ds n ≡ a_datatype x args → slice_get x.constructors j ≡ Some c → c.holds ≡ None
    → (r : Shp) → From j r → ShapeOf ds (suc d) t r → (r ≡ bare_shape x.symbol j) ⊎ From (suc j) r
bare_or_later ds d t n x args c j h e at k r w q =
    of_data h e (λ i b g z s. bare i b g z s) (λ i b u v g z p s. held i b u v g z s) q
  where
    bare : (i : ℕ) (b : Cd) → slice_get x.constructors i ≡ Some b → b.holds ≡ None → r ≡ bare_shape x.symbol i → (r ≡ bare_shape x.symbol j) ⊎ From (suc j) r
    bare i b g z s =
        let low : j ≤ i = subst (λ v. j ≤ place_in v) s w in
        elim (here_or_later i j low) [ inl a ↦ inl (s ∙ ap (bare_shape x.symbol) a) | inr a ↦ inr (subst (λ v. suc j ≤ place_in v) (sym s) a) ]

    held : (i : ℕ) (b : Cd) (u : Cn) (v : Shp) → slice_get x.constructors i ≡ Some b → b.holds ≡ Some u → r ≡ holding_shape x.symbol i v → (r ≡ bare_shape x.symbol j) ⊎ From (suc j) r
    held i b u v g z s =
        let low : j ≤ i = subst (λ v. j ≤ place_in v) s w in
        elim (here_or_later i j low) [
          | inl a ↦ (let same : c ≡ b = at_place x.constructors j i c b at g a in let no : None ≡ Some u = sym k ∙ ap (λ (y : Cd). y.holds) same ∙ z in absurd (none_some no))
          | inr a ↦ inr (subst (λ v. suc j ≤ place_in v) (sym s) a)
        ]

held_or_later : (ds : List Dt) (d : ℕ) (t n : Cn) (x : Dt) (args : List Cn) (c : Cd) (j : ℕ) (y : Cn)
    → normal_of t ≡ Some n → seen ds n ≡ a_datatype x args → slice_get x.constructors j ≡ Some c → c.holds ≡ Some y
    → (r : Shp) → From j r → ShapeOf ds (suc d) t r
    → ((g : Shp) × (ShapeOf ds d (held_at args y) g) × (r ≡ holding_shape x.symbol j g)) ⊎ From (suc j) r
held_or_later ds d t n x args c j y h e at k r w q =
    of_data h e (λ i b g z s. bare i b g z s) (λ i b u v g z p s. held i b u v g z p s) q
  where
    bare : (i : ℕ) (b : Cd) → slice_get x.constructors i ≡ Some b → b.holds ≡ None → r ≡ bare_shape x.symbol i → ((g : Shp) × (ShapeOf ds d (held_at args y) g) × (r ≡ holding_shape x.symbol j g)) ⊎ From (suc j) r
    bare i b g z s =
        let low : j ≤ i = subst (λ v. j ≤ place_in v) s w in
        elim (here_or_later i j low) [
          | inl a ↦ (let same : c ≡ b = at_place x.constructors j i c b at g a in let no : Some y ≡ None = sym k ∙ ap (λ (y : Cd). y.holds) same ∙ z in absurd (some_none no))
          | inr a ↦ inr (subst (λ v. suc j ≤ place_in v) (sym s) a)
        ]

    held : (i : ℕ) (b : Cd) (u : Cn) (v : Shp) → slice_get x.constructors i ≡ Some b → b.holds ≡ Some u → ShapeOf ds d (held_at args u) v → r ≡ holding_shape x.symbol i v → ((g : Shp) × (ShapeOf ds d (held_at args y) g) × (r ≡ holding_shape x.symbol j g)) ⊎ From (suc j) r
    held i b u v g z p s =
        let low : j ≤ i = subst (λ v. j ≤ place_in v) s w in
        elim (here_or_later i j low) [
          | inl a ↦ (
              let same : c ≡ b = at_place x.constructors j i c b at g a in
              let both : Some y ≡ Some u = sym k ∙ ap (λ (y : Cd). y.holds) same ∙ z in
              let one : y ≡ u = cc in
              inl (v, subst (λ o. ShapeOf ds d (held_at args o) v) (sym one) p, s ∙ ap (λ o. holding_shape x.symbol o v) a))
          | inr a ↦ inr (subst (λ v. suc j ≤ place_in v) (sym s) a)
        ]

-- where what a constructor holds has no shape, there are those behind it alone
void_taken : (ds : List Dt) (d : ℕ) (t u : Cn) (s j : ℕ) (rest : List Column) (rows : List Row) → ((g : Shp) → ShapeOf ds d u g → ⊥) → RightOf ds (From (suc j)) (suc d, t) rest rows covered
    → (r : Shp) (ss : List Shp) → ShapeOf ds (suc d) t r → Fits ds rest ss → ((g : Shp) × (ShapeOf ds d u g) × (r ≡ holding_shape s j g)) ⊎ From (suc j) r → one_passes rows (r ∷ ss) ≡ true
void_taken ds d t u s j rest rows none m r ss q f (inl (g, p, i)) = absurd (none g p)
void_taken ds d t u s j rest rows none m r ss q f (inr w) = m r ss w q f

void_right : (ds : List Dt) (d : ℕ) (t u : Cn) (s j : ℕ) (rest : List Column) (rows : List Row) (more : Out) → ((g : Shp) → ShapeOf ds d u g → ⊥)
    → ((r : Shp) → From j r → ShapeOf ds (suc d) t r → ((g : Shp) × (ShapeOf ds d u g) × (r ≡ holding_shape s j g)) ⊎ From (suc j) r)
    → RightOf ds (From (suc j)) (suc d, t) rest rows more → RightOf ds (From j) (suc d, t) rest rows more
void_right ds d t u s j rest rows covered none go m = λ r ss w q f. void_taken ds d t u s j rest rows none m r ss q f (go r w q)
void_right ds d t u s j rest rows (missed ss) none go m = m
void_right ds d t u s j rest rows no_room none go m = m

-- one constructor and those behind it
case_right : (ds : List Dt) (k : Ask) (d : ℕ) (t n : Cn) (x : Dt) (args : List Cn) (c : Cd) (j : ℕ) (rest : List Column) (rows : List Row) (o : Option Cn) (more : Out)
    → ((cols : List Column) (rs : List Row) → Right ds cols rs (k cols rs))
    → normal_of t ≡ Some n → seen ds n ≡ a_datatype x args → slice_get x.constructors j ≡ Some c → c.holds ≡ o
    → RightOf ds (From (suc j)) (suc d, t) rest rows more
    → RightOf ds (From j) (suc d, t) rest rows (elim o [ None ↦ tried (k rest) (bare_shape x.symbol j) rows more | Some y ↦ held_cases ds k d x.symbol j (held_at args y) rest rows more ])
case_right ds k d t n x args c j rest rows None more ask h e at z m =
    bare_right (k rest (tails (kept (bare_shape x.symbol j) rows))) more (heads_are_free (kept (bare_shape x.symbol j) rows)) refl (ask rest (tails (kept (bare_shape x.symbol j) rows))) m
  where
    bare_right : (o more : Out) (b : Bool) → heads_are_free (kept (bare_shape x.symbol j) rows) ≡ b → Right ds rest (tails (kept (bare_shape x.symbol j) rows)) o → RightOf ds (From (suc j)) (suc d, t) rest rows more
        → RightOf ds (From j) (suc d, t) rest rows (or_else (then_shape (bare_shape x.symbol j) o) (if b then covered else more))
    bare_right (missed ss) more b f a m = before_missed ds (suc d, t) rest rows (bare_shape x.symbol j) ss (of_bare h e at z) a
    bare_right no_room more b f a m = tt
    bare_right covered more true f a m = decides ds (From j) (suc d, t) rest rows (bare_shape x.symbol j) covered (of_bare h e at z) f a
    bare_right covered (missed ss) false f a m = m
    bare_right covered no_room false f a m = tt
    bare_right covered covered false f a m = λ r ss w q g. one_or_more ds (From (suc j)) (suc d, t) rest rows (bare_shape x.symbol j) a m r ss q g (bare_or_later ds d t n x args c j h e at z r w q)
case_right ds k d t n x args c j rest rows (Some y) more ask h e at z m =
    first_right ds (From j) d (held_at args y) (suc d, t) rest rows (holding_shape x.symbol j) (k rest) more
    (or_else (wrapped x.symbol j (k ((d, held_at args y) ∷ rest) (inside x.symbol j rows))) more)
    (first_shape ds d (held_at args y)) (first_is ds d (held_at args y)) (λ g p. of_holding h e at z p) (ask rest)
    (λ none. void_right ds d t (held_at args y) x.symbol j rest rows more none (held_or_later ds d t n x args c j y h e at z) m)
    (wrapped_right ds (From (suc j)) (From j) d t (held_at args y) x.symbol j rest rows (k ((d, held_at args y) ∷ rest) (inside x.symbol j rows)) more
    (λ g p. of_holding h e at z p) (ask ((d, held_at args y) ∷ rest) (inside x.symbol j rows)) m (held_or_later ds d t n x args c j y h e at z))

cases_right : (ds : List Dt) (k : Ask) (d : ℕ) (t n : Cn) (x : Dt) (args : List Cn) (rest : List Column) (rows : List Row)
    → ((cols : List Column) (rs : List Row) → Right ds cols rs (k cols rs))
    → normal_of t ≡ Some n → seen ds n ≡ a_datatype x args
    → (cs : List Cd) (j : ℕ) → ((i : ℕ) → slice_get x.constructors (j + i) ≡ slice_get cs i)
    → RightOf ds (From j) (suc d, t) rest rows (built_cases ds k d x.symbol args rest rows cs j)
cases_right ds k d t n x args rest rows ask h e [] j at = λ r ss w q f. of_data h e (λ i b g z s. none_left_at i b g (subst (λ v. j ≤ place_in v) s w)) (λ i b u v g z p s. none_left_at i b g (subst (λ v. j ≤ place_in v) s w)) q
  where
    none_left_at : {A : Type 0} (i : ℕ) (b : Cd) → slice_get x.constructors i ≡ Some b → j ≤ i → A
    none_left_at i b g low =
        let sum : i ≡ j + (i - j) = omega (arith, low) in
        let no : None ≡ Some b = sym (at (i - j)) ∙ ap (slice_get x.constructors) (sym sum) ∙ g in
        cc
cases_right ds k d t n x args rest rows ask h e (c ∷ cs) j at =
    case_right ds k d t n x args c j rest rows c.holds (built_cases ds k d x.symbol args rest rows cs (suc j)) ask h e (now x.constructors c cs j at) refl
    (cases_right ds k d t n x args rest rows ask h e cs (suc j) (later x.constructors c cs j at))

-- records
fields_fit : (ds : List Dt) (d : ℕ) (fs : List (Cn × Cn)) (rest : List Column) (v : List Shp) → Fits ds (columns_at d fs rest) v
    → (Enough fs v) × (ShapesOf ds d fs (shapes_from (zipped fs v))) × (Fits ds rest (behind_fields fs v))
fields_fit ds d [] rest v q = (tt, of_no_fields, q)
fields_fit ds d ((x, t) ∷ fs) rest v (fits_more {ss = ss} p q) = let (a, b, c) = fields_fit ds d fs rest ss q in (a, of_field p b, c)

-- the fields of a record as shapes of columns
abbrev pub fields_of : Shf → List Shp → List Shp
fields_of no_shape_fields v = v
fields_of (shape_field x s ss) v = s ∷ fields_of ss v

record_fits : (ds : List Dt) (d : ℕ) (fs : List (Cn × Cn)) (rest : List Column) (ss : Shf) (v : List Shp) → ShapesOf ds d fs ss → Fits ds rest v
    → (Fits ds (columns_at d fs rest) (fields_of ss v)) × (Enough fs (fields_of ss v)) × (shapes_from (zipped fs (fields_of ss v)) ≡ ss) × (behind_fields fs (fields_of ss v) ≡ v)
record_fits ds d [] rest ss v of_no_fields q = (q, tt, refl, refl)
record_fits ds d ((x, t) ∷ fs) rest ss v (of_field {s = s} {ss = more} p w) q =
    let (a, b, c, e) = record_fits ds d fs rest more v w q in
    (fits_more p a, b, ap (shape_field x s) c, e)

record_right : (ds : List Dt) (d : ℕ) (t n : Cn) (fs : List (Cn × Cn)) (rest : List Column) (rows : List Row) (o : Out)
    → normal_of t ≡ Some n → seen ds n ≡ a_record fs
    → Right ds (columns_at d fs rest) (opened fs rows) o
    → RightOf ds Each (suc d, t) rest rows (gathered fs o)
record_right ds d t n fs rest rows no_room h e k = tt
record_right ds d t n fs rest rows (missed ss) h e k =
    let (a, b, c) = fields_fit ds d fs rest ss k.fits in
    record { fits = fits_more (of_record h e b) c; passed = sym (opened_tells fs ss rows a) ∙ k.passed }
record_right ds d t n fs rest rows covered h e k = λ r v w q f. of_fields h e (λ ss p s. taken r v ss p s f) q
  where
    taken : (r : Shp) (v : List Shp) (ss : Shf) → ShapesOf ds d fs ss → r ≡ record_shape ss → Fits ds rest v → one_passes rows (r ∷ v) ≡ true
    taken r v ss p s f =
        let (a, b, c, g) = record_fits ds d fs rest ss v p f in
        ap (λ y. one_passes rows (y ∷ v)) s
        ∙ ap (λ y. one_passes rows (record_shape y ∷ v)) (sym c)
        ∙ ap (λ y. one_passes rows (record_shape (shapes_from (zipped fs (fields_of ss v))) ∷ y)) (sym g)
        ∙ sym (opened_tells fs (fields_of ss v) rows b)
        ∙ k (fields_of ss v) a

-- literals fit
number_fits : (i : ℕ) → i < 16384 → FitsSigned w64 (pos i)
number_fits i h = record { sfits = omega (arith, h) }

one_byte : (a : ℕ) → a < 128 → IsAscii (a ∷ [])
one_byte a h zero = h
one_byte a h (suc i) = omega arith

two_bytes : (a b : ℕ) → a < 128 → b < 128 → IsAscii (a ∷ b ∷ [])
two_bytes a b h k zero = h
two_bytes a b h k (suc zero) = k
two_bytes a b h k (suc (suc i)) = omega arith

below : (b : Bool) (i : ℕ) → nat_lt i 129 ≡ b → i < 16384 → IsAscii (if b then (i - 1) ∷ [] else ((i - 129) / 128) ∷ (((i - 129) % 128) ∷ []))
below true i e h = one_byte (i - 1) (let low : i < 129 = lt_of i 129 e in omega (arith, low))
below false i e h = two_bytes ((i - 129) / 128) ((i - 129) % 128) (omega (arith, h)) (omega arith)

bytes_ascii : (c b : Bool) (i : ℕ) → nat_lt i 129 ≡ b → i < 16384 → IsAscii (if c then [] else if b then (i - 1) ∷ [] else ((i - 129) / 128) ∷ (((i - 129) % 128) ∷ []))
bytes_ascii true b i e h = IsAscii-nil
bytes_ascii false b i e h = below b i e h

text_fits : (i : ℕ) → i < 16384 → IsUtf8 (nth_bytes i)
text_fits i h = IsUtf8-from_ascii (nth_bytes i) (bytes_ascii (nat_lt i 1) (nat_lt i 129) i refl h)

-- what a type tells
seen_right : (ds : List Dt) (k : Ask) (d : ℕ) (t n : Cn) (rest : List Column) (rows : List Row) (w : Seen)
    → ((cols : List Column) (rs : List Row) → Right ds cols rs (k cols rs))
    → normal_of t ≡ Some n → seen ds n ≡ w
    → Right ds ((suc d, t) ∷ rest) rows (by_seen ds k d rest rows w)
seen_right ds k d t n rest rows a_number ask h e =
    all_of ds (suc d) t rest rows (literals (k rest) false rows literal_count 0)
    (literals_right ds (suc d, t) rest rows false (k rest) (ask rest) literal_count 0 (λ i b. of_number h e (number_fits i (omega (arith, b, count_is)))))
seen_right ds k d t n rest rows a_text ask h e =
    all_of ds (suc d) t rest rows (literals (k rest) true rows literal_count 0)
    (literals_right ds (suc d, t) rest rows true (k rest) (ask rest) literal_count 0 (λ i b. of_text h e (text_fits i (omega (arith, b, count_is)))))
seen_right ds k d t n rest rows (a_datatype x args) ask h e =
    all_of ds (suc d) t rest rows (built_cases ds k d x.symbol args rest rows x.constructors 0)
    (fewer ds (From 0) Each (suc d, t) rest rows (built_cases ds k d x.symbol args rest rows x.constructors 0) (λ s w. omega arith)
    (cases_right ds k d t n x args rest rows ask h e x.constructors 0 (from_none x.constructors)))
seen_right ds k d t n rest rows (a_record fs) ask h e =
    all_of ds (suc d) t rest rows (gathered fs (k (columns_at d fs rest) (opened fs rows)))
    (record_right ds d t n fs rest rows (k (columns_at d fs rest) (opened fs rows)) h e (ask (columns_at d fs rest) (opened fs rows)))
seen_right ds k d t n rest rows nothing_more ask h e = tt

form_right : (ds : List Dt) (k : Ask) (d : ℕ) (t : Cn) (rest : List Column) (rows : List Row) (o : Option Cn)
    → ((cols : List Column) (rs : List Row) → Right ds cols rs (k cols rs))
    → normal_of t ≡ o
    → Right ds ((suc d, t) ∷ rest) rows (elim o [ None ↦ no_room | Some n ↦ by_seen ds k d rest rows (seen ds n) ])
form_right ds k d t rest rows None ask h = tt
form_right ds k d t rest rows (Some n) ask h = seen_right ds k d t n rest rows (seen ds n) ask h refl

split_right : (ds : List Dt) (k : Ask) (c : Column) (rest : List Column) (rows : List Row)
    → ((cols : List Column) (rs : List Row) → Right ds cols rs (k cols rs))
    → Right ds (c ∷ rest) rows (split ds k c rest rows)
split_right ds k (zero, t) rest rows ask = tt
split_right ds k (suc d, t) rest rows ask = form_right ds k d t rest rows (normal_of t) ask refl

-- all shapes of a column
each_of : (ds : List Dt) (c : Column) (rest : List Column) (rows : List Row) (o : Out) → Right ds (c ∷ rest) rows o → RightOf ds Each c rest rows o
each_of ds c rest rows covered h = λ s ss w p q. h (s ∷ ss) (fits_more p q)
each_of ds c rest rows (missed ss) h = h
each_of ds c rest rows no_room h = tt

columns_right : (ds : List Dt) (k : Ask) (cols : List Column) (rows : List Row)
    → ((cols : List Column) (rs : List Row) → Right ds cols rs (k cols rs))
    → one_is_free rows ≡ false
    → Right ds cols rows (at_columns ds k cols rows)
columns_right ds k [] rows ask h = record { fits = fits_none; passed = none_left rows ∙ h }
columns_right ds k (c ∷ rest) rows ask h =
    all_of ds c.0 c.1 rest rows (tried_first (k rest) (first_shape ds c.0 c.1) (λ s. s) rows covered (split ds k c rest rows))
    (first_right ds Each c.0 c.1 c rest rows (λ s. s) (k rest) covered (split ds k c rest rows) (first_shape ds c.0 c.1) (first_is ds c.0 c.1) (λ s p. p) (ask rest)
    (λ none. λ s ss w p q. absurd (none s p))
    (each_of ds c rest rows (split ds k c rest rows) (split_right ds k c rest rows ask)))

room_step : (ds : List Dt) (k : Ask) (cols : List Column) (rows : List Row) (b : Bool)
    → ((cols : List Column) (rs : List Row) → Right ds cols rs (k cols rs))
    → one_is_free rows ≡ b
    → Right ds cols rows (if b then covered else at_columns ds k cols rows)
room_step ds k cols rows true ask h = λ ss q. one_free_passes rows ss h
room_step ds k cols rows false ask h = columns_right ds k cols rows ask h

pub misses_right : (ds : List Dt) (room : ℕ) (cols : List Column) (rows : List Row) → Right ds cols rows (misses ds room cols rows)
misses_right ds zero cols rows = tt
misses_right ds (suc r) cols rows = room_step ds (misses ds r) cols rows (one_is_free rows) (misses_right ds r) refl
