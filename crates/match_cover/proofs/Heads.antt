-- What is left of rows where a shape of the first column is known.
use Rattle.std.proofs.Common.{◌≡◌, ℕ, Bool, true, false, ◌&&◌, ◌==◌, List, [], ◌∷◌, Option, Some, None, if◌then◌else◌, refl, ap, sym, ◌∙◌}
use Rattle.core_typing.specs.Cover.{Shp, holding_shape}
use Rattle.match_cover.specs.Tests.{Ts, anything, a_number, a_text, a_bare, a_holding, some_fields, passes}
use Rattle.match_cover.specs.Rows.{Cell, Row, cell_passes, asks_nothing, is_free, row_is_free, row_passes, one_passes, one_is_free, heads_are_free, kept, tails, held_tests, with_cell, inside}
pub use Rattle.std.proofs.lemmas.Bool.{and_from as and_intro}

-- rows that a shape is passed by
kept_step : (b : Bool) (c : Cell) (cs : Row) (ks : List Row) (ss : List Shp) (r : Bool) → one_passes (tails ks) ss ≡ r
    → one_passes (tails (elim (if b then Some (c ∷ cs) else None) [ None ↦ ks | Some x ↦ x ∷ ks ])) ss ≡ (if b && row_passes cs ss then true else r)
kept_step true c cs ks ss r h = ap (λ z. if row_passes cs ss then true else z) h
kept_step false c cs ks ss r h = h

pub kept_tells : (s : Shp) (ss : List Shp) (rows : List Row) → one_passes (tails (kept s rows)) ss ≡ one_passes rows (s ∷ ss)
kept_tells s ss [] = refl
kept_tells s ss ([] ∷ rs) = refl
kept_tells s ss ((c ∷ cs) ∷ rs) = kept_step (cell_passes c s) c cs (kept s rs) ss (one_passes rs (s ∷ ss)) (kept_tells s ss rs)

pub and_left : (a b : Bool) → (a && b) ≡ true → a ≡ true
and_left true b h = refl
and_left false b h = h

pub and_right : (a b : Bool) → (a && b) ≡ true → b ≡ true
and_right true b h = h
and_right false true h = refl
and_right false false h = h

either : (a : Bool) → (if a then true else true) ≡ true
either true = refl
either false = refl

-- tests that ask nothing
test_free : (t : Ts) (s : Shp) → asks_nothing t ≡ true → passes t s ≡ true
test_free anything s h = refl
test_free (a_number z) s h = cc
test_free (a_text w) s h = cc
test_free (a_bare r j) s h = cc
test_free (a_holding r j t) s h = cc
test_free (some_fields fs) s h = cc

pub free_passes : (c : Cell) (s : Shp) → is_free c ≡ true → cell_passes c s ≡ true
free_passes [] s h = refl
free_passes (t ∷ ts) s h =
    and_intro (passes t s) (cell_passes ts s) (test_free t s (and_left (asks_nothing t) (is_free ts) h)) (free_passes ts s (and_right (asks_nothing t) (is_free ts) h))

row_free_passes : (r : Row) (ss : List Shp) → row_is_free r ≡ true → row_passes r ss ≡ true
row_free_passes [] ss h = refl
row_free_passes (c ∷ cs) [] h = h
row_free_passes (c ∷ cs) (s ∷ ss) h =
    and_intro (cell_passes c s) (row_passes cs ss) (free_passes c s (and_left (is_free c) (row_is_free cs) h)) (row_free_passes cs ss (and_right (is_free c) (row_is_free cs) h))

one_free_step : (f p x y : Bool) → (f ≡ true → p ≡ true) → (x ≡ true → y ≡ true) → (if f then true else x) ≡ true → (if p then true else y) ≡ true
one_free_step true p x y h k e = ap (λ z. if z then true else y) (h refl)
one_free_step false p x y h k e = ap (λ z. if p then true else z) (k e) ∙ either p

pub one_free_passes : (rows : List Row) (ss : List Shp) → one_is_free rows ≡ true → one_passes rows ss ≡ true
one_free_passes [] ss h = h
one_free_passes (r ∷ rs) ss h =
    one_free_step (row_is_free r) (row_passes r ss) (one_is_free rs) (one_passes rs ss) (row_free_passes r ss) (one_free_passes rs ss) h

pub none_left : (rows : List Row) → one_passes rows [] ≡ one_is_free rows
none_left [] = refl
none_left ([] ∷ rs) = refl
none_left ((c ∷ cs) ∷ rs) = ap (λ z. if row_is_free (c ∷ cs) then true else z) (none_left rs)

-- where no kept row asks anything of the first column, each shape is as good
free_step : (b q p : Bool) (c : Cell) (cs : Row) (ks : List Row) (x y : Bool)
    → heads_are_free (elim (if b then Some (c ∷ cs) else None) [ None ↦ ks | Some r ↦ r ∷ ks ]) ≡ true
    → (is_free c ≡ true → q ≡ true)
    → (heads_are_free ks ≡ true → x ≡ true → y ≡ true)
    → (if b && p then true else x) ≡ true
    → (if q && p then true else y) ≡ true
free_step false q p c cs ks x y h free go e = ap (λ z. if q && p then true else z) (go h e) ∙ either (q && p)
free_step true q p c cs ks x y h free go e = free_kept (is_free c) q p (heads_are_free ks) x y h free go e
  where
    free_kept : (f q p k x y : Bool) → (if f then k else false) ≡ true → (f ≡ true → q ≡ true) → (k ≡ true → x ≡ true → y ≡ true) → (if p then true else x) ≡ true → (if q && p then true else y) ≡ true
    free_kept false q p k x y h free go e = cc
    free_kept true q true k x y h free go e = ap (λ z. if z && true then true else y) (free refl)
    free_kept true q false k x y h free go e = ap (λ z. if q && false then true else z) (go h e) ∙ either (q && false)

pub free_tells : (s r : Shp) (ss : List Shp) (rows : List Row) → heads_are_free (kept s rows) ≡ true → one_passes rows (s ∷ ss) ≡ true → one_passes rows (r ∷ ss) ≡ true
free_tells s r ss [] h e = e
free_tells s r ss ([] ∷ rs) h e = refl
free_tells s r ss ((c ∷ cs) ∷ rs) h e =
    free_step (cell_passes c s) (cell_passes c r) (row_passes cs ss) c cs (kept s rs) (one_passes rs (s ∷ ss)) (one_passes rs (r ∷ ss)) h (free_passes c r) (free_tells s r ss rs) e

-- what a constructor holds
abbrev pub cell_is_passed : Option Cell → Shp → Bool
cell_is_passed None s = false
cell_is_passed (Some c) s = cell_passes c s

held_step : (a b : Bool) (t : Ts) (h : Shp) (p : Bool) (o : Option Cell) → p ≡ cell_is_passed o h
    → ((a && (b && passes t h)) && p) ≡ cell_is_passed (if a && b then elim o [ None ↦ None | Some more ↦ Some (t ∷ more) ] else None) h
held_step false b t h p o e = refl
held_step true false t h p o e = refl
held_step true true t h p None e = ap (λ z. passes t h && z) e ∙ none_and (passes t h)
  where
    none_and : (x : Bool) → (x && false) ≡ false
    none_and true = refl
    none_and false = refl
held_step true true t h p (Some more) e = ap (λ z. passes t h && z) e

held_tells : (r i : ℕ) (h : Shp) (c : Cell) → cell_passes c (holding_shape r i h) ≡ cell_is_passed (held_tests r i c) h
held_tells r i h [] = refl
held_tells r i h (anything ∷ ts) = held_tells r i h ts
held_tells r i h (a_number z ∷ ts) = refl
held_tells r i h (a_text w ∷ ts) = refl
held_tells r i h (a_bare s j ∷ ts) = refl
held_tells r i h (a_holding s j t ∷ ts) = held_step (s == r) (j == i) t h (cell_passes ts (holding_shape r i h)) (held_tests r i ts) (held_tells r i h ts)
held_tells r i h (some_fields fs ∷ ts) = refl

inside_step : (p : Bool) (o : Option Cell) (cs : Row) (ks : List Row) (h : Shp) (ss : List Shp) (r : Bool) → p ≡ cell_is_passed o h → one_passes ks (h ∷ ss) ≡ r
    → one_passes (elim (with_cell o cs) [ None ↦ ks | Some x ↦ x ∷ ks ]) (h ∷ ss) ≡ (if p && row_passes cs ss then true else r)
inside_step p None cs ks h ss r e k = k ∙ ap (λ z. if z && row_passes cs ss then true else r) (sym e)
inside_step p (Some c) cs ks h ss r e k =
    ap (λ z. if cell_passes c h && row_passes cs ss then true else z) k ∙ ap (λ z. if z && row_passes cs ss then true else r) (sym e)

pub inside_tells : (r i : ℕ) (h : Shp) (ss : List Shp) (rows : List Row) → one_passes (inside r i rows) (h ∷ ss) ≡ one_passes rows (holding_shape r i h ∷ ss)
inside_tells r i h ss [] = refl
inside_tells r i h ss ([] ∷ rs) = refl
inside_tells r i h ss ((c ∷ cs) ∷ rs) =
    inside_step (cell_passes c (holding_shape r i h)) (held_tests r i c) cs (inside r i rs) h ss (one_passes rs (holding_shape r i h ∷ ss)) (held_tells r i h c) (inside_tells r i h ss rs)
