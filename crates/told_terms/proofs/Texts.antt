-- Shapes of which texts are no more than those of some patterns, and one more, which these patterns don't tell apart
-- from the texts that it stands for.
use Rattle.std.proofs.Common.{◌≡◌, ℕ, ℤ, zero, suc, ◌+◌, ◌≤◌, max, ◌==◌, ◌&&◌, Bool, true, false, List, [], ◌∷◌, ◌++◌, length, Option, Some, None, if◌then◌else◌, refl, ap, ap₂, sym, subst, ◌∙◌, arith, IsUtf8, IsAscii, bytes_eq}
use Rattle.std.proofs.lemmas.Slice.Eq.{bytes_eq-Decides}
use Rattle.std.proofs.lemmas.Str.{IsUtf8-from_ascii}
use Rattle.std.proofs.lemmas.Str.Ascii.{IsAscii-nil, IsAscii-cons}
use Rattle.con_terms.specs.Trees.{Cn}
use Rattle.row_normal.specs.SameTree.{cn_eq}
use Rattle.core_terms.specs.Trees.{Pt, pattern, Pf, any, binds, is_number, is_text, is_bare, is_holding, has_fields, annotated, Pfs, no_pat_fields, pat_field}
use Rattle.core_typing.specs.Scopes.{normal_of}
use Rattle.core_typing.specs.Cover.{Shp, leaf, number_shape, text_shape, bare_shape, holding_shape, record_shape, Shf, no_shape_fields, shape_field, shape_at, shape_named, takes, form_takes, fields_take, one_takes}
use Rattle.judged_terms.proofs.Cases.{false_not as not_among}

abbrev pub Words : Type 0
Words = List (List ℕ)

-- the texts of patterns
abbrev mutual
  pub texts_in : Pt → Words
  texts_in (pattern p f) = form_texts f

  pub form_texts : Pf → Words
  form_texts any = []
  form_texts (binds x t) = []
  form_texts (is_number z) = []
  form_texts (is_text t) = t ∷ []
  form_texts (is_bare s j) = []
  form_texts (is_holding s j p) = texts_in p
  form_texts (has_fields fs more) = fields_texts fs
  form_texts (annotated p t) = texts_in p

  pub fields_texts : Pfs → Words
  fields_texts no_pat_fields = []
  fields_texts (pat_field p n q fs) = texts_in q ++ fields_texts fs

abbrev pub texts_of : List Pt → Words
texts_of [] = []
texts_of (q ∷ qs) = texts_in q ++ texts_of qs

abbrev pub among : List ℕ → Words → Bool
among w [] = false
among w (v ∷ vs) = if bytes_eq v w then true else among w vs

abbrev pub Within : Words → Words → Type 0
Within xs ws = (w : List ℕ) → among w xs ≡ true → among w ws ≡ true

left_by : (b : Bool) (w : List ℕ) (xs ys : Words) → (among w xs ≡ true → among w (xs ++ ys) ≡ true) → (if b then true else among w xs) ≡ true → (if b then true else among w (xs ++ ys)) ≡ true
left_by true w xs ys go h = refl
left_by false w xs ys go h = go h

among_left : (w : List ℕ) (xs ys : Words) → among w xs ≡ true → among w (xs ++ ys) ≡ true
among_left w [] ys h = cc
among_left w (v ∷ xs) ys h = left_by (bytes_eq v w) w xs ys (among_left w xs ys) h

right_by : (b : Bool) (w : List ℕ) (xs : Words) → among w xs ≡ true → (if b then true else among w xs) ≡ true
right_by true w xs h = refl
right_by false w xs h = h

among_right : (w : List ℕ) (xs ys : Words) → among w ys ≡ true → among w (xs ++ ys) ≡ true
among_right w [] ys h = h
among_right w (v ∷ xs) ys h = right_by (bytes_eq v w) w (xs ++ ys) (among_right w xs ys h)

pub within_left : (xs ys ws : Words) → Within (xs ++ ys) ws → Within xs ws
within_left xs ys ws h = λ w k. h w (among_left w xs ys k)

pub within_right : (xs ys ws : Words) → Within (xs ++ ys) ws → Within ys ws
within_right xs ys ws h = λ w k. h w (among_right w xs ys k)

here_by : (w : List ℕ) (vs : Words) (b : Bool) → bytes_eq w w ≡ b → (if b then true else among w vs) ≡ true
here_by w vs true h = refl
here_by w vs false h = let e = (bytes_eq-Decides w w).1 refl in cc

pub among_here : (w : List ℕ) (vs : Words) → among w (w ∷ vs) ≡ true
among_here w vs = here_by w vs (bytes_eq w w) refl

-- a text that is longer than all of some
abbrev pub longest : Words → ℕ
longest [] = 0
longest (w ∷ ws) = max (length w) (longest ws)

abbrev pub letters : ℕ → List ℕ
letters zero = []
letters (suc n) = 97 ∷ letters n

letters_length : (n : ℕ) → length (letters n) ≡ n
letters_length zero = refl
letters_length (suc n) = ap suc (letters_length n)

letters_ascii : (n : ℕ) → IsAscii (letters n)
letters_ascii zero = IsAscii-nil
letters_ascii (suc n) = IsAscii-cons 97 (letters n) (omega arith) (letters_ascii n)

abbrev pub another : Words → List ℕ
another ws = letters (suc (longest ws))

pub another_text : (ws : Words) → IsUtf8 (another ws)
another_text ws = IsUtf8-from_ascii (another ws) (letters_ascii (suc (longest ws)))

shorter_by : (w v : List ℕ) (ws : Words) (b : Bool) → bytes_eq v w ≡ b → (among w ws ≡ true → length w ≤ longest ws) → (if b then true else among w ws) ≡ true → length w ≤ max (length v) (longest ws)
shorter_by w v ws true e go h = let k : length v ≡ length w = ap length ((bytes_eq-Decides v w).0 e) in omega arith
shorter_by w v ws false e go h = let k = go h in omega arith

shorter : (w : List ℕ) (ws : Words) → among w ws ≡ true → length w ≤ longest ws
shorter w [] h = cc
shorter w (v ∷ ws) h = shorter_by w v ws (bytes_eq v w) refl (shorter w ws) h

another_out : (ws : Words) → among (another ws) ws ≡ true → ⊥
another_out ws h = let k = shorter (another ws) ws h in let e = letters_length (suc (longest ws)) in omega (arith, k, e)

-- shapes with these texts
abbrev pub stands_for : Words → List ℕ → List ℕ
stands_for ws w = if among w ws then w else another ws

abbrev mutual
  pub as_shape : Words → Shp → Shp
  as_shape ws leaf = leaf
  as_shape ws (number_shape z) = number_shape z
  as_shape ws (text_shape w) = text_shape (stands_for ws w)
  as_shape ws (bare_shape s j) = bare_shape s j
  as_shape ws (holding_shape s j h) = holding_shape s j (as_shape ws h)
  as_shape ws (record_shape ss) = record_shape (as_fields ws ss)

  pub as_fields : Words → Shf → Shf
  as_fields ws no_shape_fields = no_shape_fields
  as_fields ws (shape_field x s ss) = shape_field x (as_shape ws s) (as_fields ws ss)

-- patterns with some of the texts don't tell them apart
not_equal : (t w : List ℕ) → (t ≡ w → ⊥) → bytes_eq t w ≡ false
not_equal t w n = by_test (bytes_eq t w) refl
  where
    by_test : (b : Bool) → bytes_eq t w ≡ b → b ≡ false
    by_test true e = absurd (n ((bytes_eq-Decides t w).0 e))
    by_test false e = refl

text_by : (ws : Words) (t w : List ℕ) (b : Bool) → among w ws ≡ b → among t ws ≡ true → bytes_eq t (if b then w else another ws) ≡ bytes_eq t w
text_by ws t w true e h = refl
text_by ws t w false e h =
    not_equal t (another ws) (λ k. another_out ws (subst (λ (v : List ℕ). among v ws ≡ true) k h))
    ∙ sym (not_equal t w (λ k. not_among e (subst (λ (v : List ℕ). among v ws ≡ true) k h)))

field_by : (ws : Words) (x y : Cn) (s : Shp) (ss : Shf) (b : Bool) → shape_at (as_fields ws ss) x ≡ as_shape ws (shape_at ss x) → (if b then as_shape ws s else shape_at (as_fields ws ss) x) ≡ as_shape ws (if b then s else shape_at ss x)
field_by ws x y s ss true h = refl
field_by ws x y s ss false h = h

field_as : (ws : Words) (ss : Shf) (x : Cn) → shape_at (as_fields ws ss) x ≡ as_shape ws (shape_at ss x)
field_as ws no_shape_fields x = refl
field_as ws (shape_field y s ss) x = field_by ws x y s ss (cn_eq y x) (field_as ws ss x)

named_as : (ws : Words) (ss : Shf) (o : Option Cn) → shape_named (as_fields ws ss) o ≡ as_shape ws (shape_named ss o)
named_as ws ss None = refl
named_as ws ss (Some x) = field_as ws ss x

number_as : (ws : Words) (z : ℤ) (s : Shp) → form_takes (is_number z) (as_shape ws s) ≡ form_takes (is_number z) s
number_as ws z leaf = refl
number_as ws z (number_shape y) = refl
number_as ws z (text_shape w) = refl
number_as ws z (bare_shape s j) = refl
number_as ws z (holding_shape s j h) = refl
number_as ws z (record_shape ss) = refl

text_as : (ws : Words) (t : List ℕ) (s : Shp) → among t ws ≡ true → form_takes (is_text t) (as_shape ws s) ≡ form_takes (is_text t) s
text_as ws t leaf h = refl
text_as ws t (number_shape y) h = refl
text_as ws t (text_shape w) h = text_by ws t w (among w ws) refl h
text_as ws t (bare_shape s j) h = refl
text_as ws t (holding_shape s j g) h = refl
text_as ws t (record_shape ss) h = refl

bare_as : (ws : Words) (r i : ℕ) (s : Shp) → form_takes (is_bare r i) (as_shape ws s) ≡ form_takes (is_bare r i) s
bare_as ws r i leaf = refl
bare_as ws r i (number_shape y) = refl
bare_as ws r i (text_shape w) = refl
bare_as ws r i (bare_shape s j) = refl
bare_as ws r i (holding_shape s j h) = refl
bare_as ws r i (record_shape ss) = refl

holding_as : (ws : Words) (r i : ℕ) (q : Pt) (s : Shp) → ((h : Shp) → takes q (as_shape ws h) ≡ takes q h) → form_takes (is_holding r i q) (as_shape ws s) ≡ form_takes (is_holding r i q) s
holding_as ws r i q leaf go = refl
holding_as ws r i q (number_shape y) go = refl
holding_as ws r i q (text_shape w) go = refl
holding_as ws r i q (bare_shape s j) go = refl
holding_as ws r i q (holding_shape s j h) go = ap (λ (b : Bool). (r == s) && ((i == j) && b)) (go h)
holding_as ws r i q (record_shape ss) go = refl

fields_as : (ws : Words) (fs : Pfs) (more : Bool) (s : Shp) → ((ss : Shf) → fields_take fs (as_fields ws ss) ≡ fields_take fs ss) → form_takes (has_fields fs more) (as_shape ws s) ≡ form_takes (has_fields fs more) s
fields_as ws fs more leaf go = refl
fields_as ws fs more (number_shape y) go = refl
fields_as ws fs more (text_shape w) go = refl
fields_as ws fs more (bare_shape s j) go = refl
fields_as ws fs more (holding_shape s j h) go = refl
fields_as ws fs more (record_shape ss) go = go ss

mutual
  takes_as : (ws : Words) (q : Pt) → Within (texts_in q) ws → (s : Shp) → takes q (as_shape ws s) ≡ takes q s
  takes_as ws (pattern p f) h s = form_as ws f h s

  form_as : (ws : Words) (f : Pf) → Within (form_texts f) ws → (s : Shp) → form_takes f (as_shape ws s) ≡ form_takes f s
  form_as ws any h s = refl
  form_as ws (binds x t) h s = refl
  form_as ws (is_number z) h s = number_as ws z s
  form_as ws (is_text t) h s = text_as ws t s (h t (among_here t []))
  form_as ws (is_bare r i) h s = bare_as ws r i s
  form_as ws (is_holding r i q) h s = holding_as ws r i q s (takes_as ws q h)
  form_as ws (has_fields fs more) h s = fields_as ws fs more s (all_as ws fs h)
  form_as ws (annotated q t) h s = takes_as ws q h s

  all_as : (ws : Words) (fs : Pfs) → Within (fields_texts fs) ws → (ss : Shf) → fields_take fs (as_fields ws ss) ≡ fields_take fs ss
  all_as ws no_pat_fields h ss = refl
  all_as ws (pat_field p n q fs) h ss =
      ap₂ (λ a b. a && b)
      (ap (takes q) (named_as ws ss (normal_of n)) ∙ takes_as ws q (within_left (texts_in q) (fields_texts fs) ws h) (shape_named ss (normal_of n)))
      (all_as ws fs (within_right (texts_in q) (fields_texts fs) ws h) ss)

pub one_takes_as : (ws : Words) (qs : List Pt) → Within (texts_of qs) ws → (s : Shp) → one_takes qs (as_shape ws s) ≡ one_takes qs s
one_takes_as ws [] h s = refl
one_takes_as ws (q ∷ qs) h s =
    ap₂ (λ a b. if a then true else b)
    (takes_as ws q (within_left (texts_in q) (texts_of qs) ws h) s)
    (one_takes_as ws qs (within_right (texts_in q) (texts_of qs) ws h) s)
