-- What is left of rows where the fields of a record are columns of their own, and what patterns ask.
use Rattle.std.proofs.Common.{◌≡◌, Bool, true, false, ◌&&◌, ◌==◌, List, [], ◌∷◌, Option, Some, None, if◌then◌else◌, refl, ap, sym, ◌∙◌}
use Rattle.con_terms.specs.Trees.{Cn}
use Rattle.row_normal.specs.SameTree.{cn_eq}
use Rattle.core_terms.specs.Trees.{Pt, pattern, Pf, any, binds, is_number, is_text, is_bare, is_holding, has_fields, annotated, Pfs, no_pat_fields, pat_field}
use Rattle.core_typing.specs.Scopes.{normal_of}
use Rattle.core_typing.specs.Cover.{Shp, leaf, number_shape, text_shape, bare_shape, holding_shape, record_shape, Shf, no_shape_fields, shape_field, shape_at, shape_named, takes, form_takes, fields_take, one_takes}
use Rattle.type_faults.specs.View.{shapes_from}
use Rattle.match_cover.specs.Tests.{Ts, anything, a_number, a_text, a_bare, a_holding, some_fields, Tfs, no_tests, test_at, test_of, form_test, fields_test, passes, fields_pass, tests_then, tests_named, tests_not_named, pass_leaves}
use Rattle.match_cover.specs.Rows.{Cell, Row, cell_passes, row_passes, one_passes, fields_asked, before_cell, columns_of, opened_of, opened}
use Rattle.match_cover.specs.Misses.{zipped, behind_fields}
use Rattle.match_cover.specs.Laws.{rows_of}

-- what a pattern asks is what it takes
mutual
  pub test_tells : (p : Pt) (s : Shp) → passes (test_of p) s ≡ takes p s
  test_tells (pattern p f) s = form_tells f s

  form_tells : (f : Pf) (s : Shp) → passes (form_test f) s ≡ form_takes f s
  form_tells any s = refl
  form_tells (binds x t) s = refl
  form_tells (is_number z) leaf = refl
  form_tells (is_number z) (number_shape y) = refl
  form_tells (is_number z) (text_shape w) = refl
  form_tells (is_number z) (bare_shape r i) = refl
  form_tells (is_number z) (holding_shape r i h) = refl
  form_tells (is_number z) (record_shape ss) = refl
  form_tells (is_text t) leaf = refl
  form_tells (is_text t) (number_shape y) = refl
  form_tells (is_text t) (text_shape w) = refl
  form_tells (is_text t) (bare_shape r i) = refl
  form_tells (is_text t) (holding_shape r i h) = refl
  form_tells (is_text t) (record_shape ss) = refl
  form_tells (is_bare s j) leaf = refl
  form_tells (is_bare s j) (number_shape y) = refl
  form_tells (is_bare s j) (text_shape w) = refl
  form_tells (is_bare s j) (bare_shape r i) = refl
  form_tells (is_bare s j) (holding_shape r i h) = refl
  form_tells (is_bare s j) (record_shape ss) = refl
  form_tells (is_holding s j p) leaf = refl
  form_tells (is_holding s j p) (number_shape y) = refl
  form_tells (is_holding s j p) (text_shape w) = refl
  form_tells (is_holding s j p) (bare_shape r i) = refl
  form_tells (is_holding s j p) (holding_shape r i h) = ap (λ z. (s == r) && ((j == i) && z)) (test_tells p h)
  form_tells (is_holding s j p) (record_shape ss) = refl
  form_tells (has_fields fs more) leaf = refl
  form_tells (has_fields fs more) (number_shape y) = refl
  form_tells (has_fields fs more) (text_shape w) = refl
  form_tells (has_fields fs more) (bare_shape r i) = refl
  form_tells (has_fields fs more) (holding_shape r i h) = refl
  form_tells (has_fields fs more) (record_shape ss) = fields_tell fs ss
  form_tells (annotated p t) s = test_tells p s

  fields_tell : (fs : Pfs) (ss : Shf) → fields_pass (fields_test fs) ss ≡ fields_take fs ss
  fields_tell no_pat_fields ss = refl
  fields_tell (pat_field p n q fs) ss =
      ap (λ z. z && fields_pass (fields_test fs) ss) (test_tells q (shape_named ss (normal_of n))) ∙ ap (λ z. takes q (shape_named ss (normal_of n)) && z) (fields_tell fs ss)

and_true : (a : Bool) → ((a && true) && true) ≡ a
and_true true = refl
and_true false = refl

pub patterns_tell : (ps : List Pt) (s : Shp) → one_passes (rows_of ps) (s ∷ []) ≡ one_takes ps s
patterns_tell [] s = refl
patterns_tell (p ∷ ps) s =
    ap (λ z. if z then true else one_passes (rows_of ps) (s ∷ [])) (and_true (passes (test_of p) s) ∙ test_tells p s) ∙ ap (λ z. if takes p s then true else z) (patterns_tell ps s)

-- booleans
and_group : (a b c : Bool) → (a && (b && c)) ≡ ((a && b) && c)
and_group true b c = refl
and_group false b c = refl

and_swap : (a b c : Bool) → (a && (b && c)) ≡ (b && (a && c))
and_swap true true c = refl
and_swap true false c = refl
and_swap false true c = refl
and_swap false false c = refl

and_none : (a : Bool) → (a && false) ≡ false
and_none true = refl
and_none false = refl

-- a record's first field and the others
split_named : (b : Bool) (t : Ts) (s v : Shp) (ts : List Ts) (ms : Tfs) (n : Option Cn) (ss : Shf) (w : Bool)
    → w ≡ (cell_passes ts s && fields_pass ms ss)
    → shape_named ss n ≡ v
    → (passes t (if b then s else v) && w) ≡ (cell_passes (if b then t ∷ ts else ts) s && fields_pass (if b then ms else test_at n t ms) ss)
split_named true t s v ts ms n ss w e f = ap (λ z. passes t s && z) e ∙ and_group (passes t s) (cell_passes ts s) (fields_pass ms ss)
split_named false t s v ts ms n ss w e f =
    ap (λ z. passes t v && z) e ∙ and_swap (passes t v) (cell_passes ts s) (fields_pass ms ss) ∙ ap (λ z. cell_passes ts s && (passes t z && fields_pass ms ss)) (sym f)

named_tells : (x : Cn) (s : Shp) (ss : Shf) (ts : Tfs) → fields_pass ts (shape_field x s ss) ≡ (cell_passes (tests_named x ts) s && fields_pass (tests_not_named x ts) ss)
named_tells x s ss no_tests = refl
named_tells x s ss (test_at None t ts) = split_named false t s leaf (tests_named x ts) (tests_not_named x ts) None ss (fields_pass ts (shape_field x s ss)) (named_tells x s ss ts) refl
named_tells x s ss (test_at (Some y) t ts) =
    split_named (cn_eq x y) t s (shape_at ss y) (tests_named x ts) (tests_not_named x ts) (Some y) ss (fields_pass ts (shape_field x s ss)) (named_tells x s ss ts) refl

leaves_tell : (ts : Tfs) → fields_pass ts no_shape_fields ≡ pass_leaves ts
leaves_tell no_tests = refl
leaves_tell (test_at None t ts) = ap (λ z. passes t leaf && z) (leaves_tell ts)
leaves_tell (test_at (Some y) t ts) = ap (λ z. passes t leaf && z) (leaves_tell ts)

-- all fields have a shape
abbrev pub Enough : List (Cn × Cn) → List Shp → Type 0
Enough [] v = Unit {0}
Enough (f ∷ fs) [] = ⊥
Enough (f ∷ fs) (s ∷ v) = Enough fs v

abbrev pub row_is_passed : Option Row → List Shp → Bool
row_is_passed None v = false
row_is_passed (Some r) v = row_passes r v

before_tells : (c : Cell) (o : Option Row) (s : Shp) (v : List Shp) → row_is_passed (before_cell c o) (s ∷ v) ≡ (cell_passes c s && row_is_passed o v)
before_tells c None s v = sym (and_none (cell_passes c s))
before_tells c (Some r) s v = refl

end_tells : (b : Bool) (cs : Row) (v : List Shp) → row_is_passed (if b then Some cs else None) v ≡ (b && row_passes cs v)
end_tells true cs v = refl
end_tells false cs v = refl

columns_tell : (fs : List (Cn × Cn)) (ts : Tfs) (cs : Row) (v : List Shp) → Enough fs v
    → row_is_passed (columns_of fs ts cs) v ≡ (fields_pass ts (shapes_from (zipped fs v)) && row_passes cs (behind_fields fs v))
columns_tell [] ts cs v h = end_tells (pass_leaves ts) cs v ∙ ap (λ z. z && row_passes cs v) (sym (leaves_tell ts))
columns_tell (f ∷ fs) ts cs [] h = absurd h
columns_tell (f ∷ fs) ts cs (s ∷ v) h =
    before_tells (tests_named f.0 ts) (columns_of fs (tests_not_named f.0 ts) cs) s v
    ∙ ap (λ z. cell_passes (tests_named f.0 ts) s && z) (columns_tell fs (tests_not_named f.0 ts) cs v h)
    ∙ and_group (cell_passes (tests_named f.0 ts) s) (fields_pass (tests_not_named f.0 ts) (shapes_from (zipped fs v))) (row_passes cs (behind_fields fs v))
    ∙ ap (λ z. z && row_passes cs (behind_fields fs v)) (sym (named_tells f.0 s (shapes_from (zipped fs v)) ts))

-- a cell's fields
abbrev pub fields_are_passed : Option Tfs → Shf → Bool
fields_are_passed None ss = false
fields_are_passed (Some ts) ss = fields_pass ts ss

then_tell : (ts more : Tfs) (ss : Shf) → fields_pass (tests_then ts more) ss ≡ (fields_pass ts ss && fields_pass more ss)
then_tell no_tests more ss = refl
then_tell (test_at n t ts) more ss =
    ap (λ z. passes t (shape_named ss n) && z) (then_tell ts more ss) ∙ and_group (passes t (shape_named ss n)) (fields_pass ts ss) (fields_pass more ss)

asked_step : (fs : Tfs) (ss : Shf) (p : Bool) (o : Option Tfs) → p ≡ fields_are_passed o ss
    → (fields_pass fs ss && p) ≡ fields_are_passed (elim o [ None ↦ None | Some more ↦ Some (tests_then fs more) ]) ss
asked_step fs ss p None e = ap (λ z. fields_pass fs ss && z) e ∙ and_none (fields_pass fs ss)
asked_step fs ss p (Some more) e = ap (λ z. fields_pass fs ss && z) e ∙ sym (then_tell fs more ss)

asked_tells : (ss : Shf) (c : Cell) → cell_passes c (record_shape ss) ≡ fields_are_passed (fields_asked c) ss
asked_tells ss [] = refl
asked_tells ss (anything ∷ ts) = asked_tells ss ts
asked_tells ss (a_number z ∷ ts) = refl
asked_tells ss (a_text w ∷ ts) = refl
asked_tells ss (a_bare s j ∷ ts) = refl
asked_tells ss (a_holding s j t ∷ ts) = refl
asked_tells ss (some_fields fs ∷ ts) = asked_step fs ss (cell_passes ts (record_shape ss)) (fields_asked ts) (asked_tells ss ts)

row_step : (fs : List (Cn × Cn)) (o : Option Tfs) (p : Bool) (cs : Row) (v : List Shp) → Enough fs v → p ≡ fields_are_passed o (shapes_from (zipped fs v))
    → row_is_passed (elim o [ None ↦ None | Some ts ↦ columns_of fs ts cs ]) v ≡ (p && row_passes cs (behind_fields fs v))
row_step fs None p cs v h e = ap (λ z. z && row_passes cs (behind_fields fs v)) (sym e)
row_step fs (Some ts) p cs v h e = columns_tell fs ts cs v h ∙ ap (λ z. z && row_passes cs (behind_fields fs v)) (sym e)

rows_step : (o : Option Row) (ks : List Row) (v : List Shp) (p r : Bool) → row_is_passed o v ≡ p → one_passes ks v ≡ r
    → one_passes (elim o [ None ↦ ks | Some x ↦ x ∷ ks ]) v ≡ (if p then true else r)
rows_step None ks v p r e k = k ∙ ap (λ z. if z then true else r) e
rows_step (Some x) ks v p r e k = ap (λ z. if z then true else one_passes ks v) e ∙ ap (λ z. if p then true else z) k

pub opened_tells : (fs : List (Cn × Cn)) (v : List Shp) (rows : List Row) → Enough fs v
    → one_passes (opened fs rows) v ≡ one_passes rows (record_shape (shapes_from (zipped fs v)) ∷ behind_fields fs v)
opened_tells fs v [] h = refl
opened_tells fs v ([] ∷ rs) h = refl
opened_tells fs v ((c ∷ cs) ∷ rs) h =
    rows_step (opened_of fs (c ∷ cs)) (opened fs rs) v (cell_passes c (record_shape (shapes_from (zipped fs v))) && row_passes cs (behind_fields fs v)) (one_passes rs (record_shape (shapes_from (zipped fs v)) ∷ behind_fields fs v))
    (row_step fs (fields_asked c) (cell_passes c (record_shape (shapes_from (zipped fs v)))) cs v h (asked_tells (shapes_from (zipped fs v)) c))
    (opened_tells fs v rs h)
