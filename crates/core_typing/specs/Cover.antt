-- Which shapes a type's values have, and whether patterns take them all.
-- The Ur/Web Manual asks for it apart from its rules of "Pattern Typing".
use Rattle.std.specs.Prelude.{◌≡◌, ℕ, zero, suc, max, ℤ, Bool, true, false, ◌&&◌, ◌==◌, bytes_eq, List, [], ◌∷◌, Option, Some, None, slice_get, IsUtf8, FitsSigned, if◌then◌else◌}
use Rattle.std.specs.Int.{w64}
use Rattle.std.specs.List.{Contains}
use Rattle.std.specs.Ordering.{int_eq}
use Rattle.con_terms.specs.Trees.{Cn}
use Rattle.row_normal.specs.SameTree.{cn_eq}
use Rattle.core_terms.specs.Trees.{Pt, pattern, Pf, any, binds, is_number, is_text, is_bare, is_holding, has_fields, annotated, Pfs, no_pat_fields, pat_field, Cd, Dt}
use Rattle.core_terms.specs.Datatypes.{held_at}
use Rattle.core_typing.specs.Scopes.{normal_of}
use Rattle.core_typing.specs.Seen.{a_number, a_text, a_datatype, a_record, nothing_more, seen}

mutual
  -- shapes: a leaf stands for any value
  pub data Shp : Type 0 where
    leaf : Shp
    number_shape : ℤ → Shp
    text_shape : List ℕ → Shp
    -- a datatype's symbol, and the constructor's place
    bare_shape : ℕ → ℕ → Shp
    holding_shape : ℕ → ℕ → Shp → Shp
    record_shape : Shf → Shp

  -- fields by their names in normal form
  pub data Shf : Type 0 where
    no_shape_fields : Shf
    shape_field : Cn → Shp → Shf → Shf

-- how deep constructors, records and literals stand in a pattern
abbrev mutual
  pub pattern_depth : Pt → ℕ
  pattern_depth (pattern p f) = form_depth f

  pub form_depth : Pf → ℕ
  form_depth any = 0
  form_depth (binds x t) = 0
  form_depth (is_number z) = 1
  form_depth (is_text t) = 1
  form_depth (is_bare s j) = 1
  form_depth (is_holding s j p) = suc (pattern_depth p)
  form_depth (has_fields fs more) = suc (fields_depth fs)
  form_depth (annotated p t) = pattern_depth p

  pub fields_depth : Pfs → ℕ
  fields_depth no_pat_fields = 0
  fields_depth (pat_field p n q fs) = max (pattern_depth q) (fields_depth fs)

abbrev pub patterns_depth : List Pt → ℕ
patterns_depth [] = 0
patterns_depth (p ∷ ps) = max (pattern_depth p) (patterns_depth ps)

mutual
  -- the shapes of a type down to a depth; deeper, and where the type tells no more, there are leaves alone
  pub data ShapeOf : List Dt → ℕ → Cn → Shp → Type 0 where
    -- below the depth: any value
    deeper : {ds : List Dt} {t : Cn} → ShapeOf ds zero t leaf
    -- a type that tells no more: any value
    no_more : {ds : List Dt} {d : ℕ} {t n : Cn}
        → normal_of t ≡ Some n
        → seen ds n ≡ nothing_more
        → ShapeOf ds (suc d) t leaf
    -- 1 : int, in 64 bits
    of_number : {ds : List Dt} {d : ℕ} {t n : Cn} {z : ℤ}
        → normal_of t ≡ Some n
        → seen ds n ≡ a_number
        → FitsSigned w64 z
        → ShapeOf ds (suc d) t (number_shape z)
    -- "a" : string, in UTF-8
    of_text : {ds : List Dt} {d : ℕ} {t n : Cn} {w : List ℕ}
        → normal_of t ≡ Some n
        → seen ds n ≡ a_text
        → IsUtf8 w
        → ShapeOf ds (suc d) t (text_shape w)
    -- C : d t .., where C holds nothing
    of_bare : {ds : List Dt} {d j : ℕ} {t n : Cn} {x : Dt} {args : List Cn} {c : Cd}
        → normal_of t ≡ Some n
        → seen ds n ≡ a_datatype x args
        → slice_get x.constructors j ≡ Some c
        → c.holds ≡ None
        → ShapeOf ds (suc d) t (bare_shape x.symbol j)
    -- C s : d t .., where s is a shape of what C holds at t ..
    of_holding : {ds : List Dt} {d j : ℕ} {t n held : Cn} {x : Dt} {args : List Cn} {c : Cd} {s : Shp}
        → normal_of t ≡ Some n
        → seen ds n ≡ a_datatype x args
        → slice_get x.constructors j ≡ Some c
        → c.holds ≡ Some held
        → ShapeOf ds d (held_at args held) s
        → ShapeOf ds (suc d) t (holding_shape x.symbol j s)
    -- {n = s, ..} : $[n = t, ..], where s is a shape of t
    of_record : {ds : List Dt} {d : ℕ} {t n : Cn} {fs : List (Cn × Cn)} {ss : Shf}
        → normal_of t ≡ Some n
        → seen ds n ≡ a_record fs
        → ShapesOf ds d fs ss
        → ShapeOf ds (suc d) t (record_shape ss)

  pub data ShapesOf : List Dt → ℕ → List (Cn × Cn) → Shf → Type 0 where
    -- {}
    of_no_fields : {ds : List Dt} {d : ℕ} → ShapesOf ds d [] no_shape_fields
    -- {n = s, ..}, where s is a shape of n's type
    of_field : {ds : List Dt} {d : ℕ} {x t : Cn} {fs : List (Cn × Cn)} {s : Shp} {ss : Shf}
        → ShapeOf ds d t s
        → ShapesOf ds d fs ss
        → ShapesOf ds d ((x, t) ∷ fs) (shape_field x s ss)

-- the shape of the field with a name; a leaf where there is none
abbrev pub shape_at : Shf → Cn → Shp
shape_at no_shape_fields x = leaf
shape_at (shape_field y s ss) x = if cn_eq y x then s else shape_at ss x

abbrev pub shape_named : Shf → Option Cn → Shp
shape_named ss None = leaf
shape_named ss (Some x) = shape_at ss x

abbrev mutual
  -- whether a pattern takes every value of a shape
  pub takes : Pt → Shp → Bool
  takes (pattern p f) s = form_takes f s

  pub form_takes : Pf → Shp → Bool
  form_takes any s = true
  form_takes (binds x t) s = true
  form_takes (is_number z) (number_shape y) = int_eq z y
  form_takes (is_number z) _ = false
  form_takes (is_text t) (text_shape w) = bytes_eq t w
  form_takes (is_text t) _ = false
  form_takes (is_bare s j) (bare_shape r i) = (s == r) && (j == i)
  form_takes (is_bare s j) _ = false
  form_takes (is_holding s j p) (holding_shape r i h) = (s == r) && ((j == i) && takes p h)
  form_takes (is_holding s j p) _ = false
  form_takes (has_fields fs more) (record_shape ss) = fields_take fs ss
  form_takes (has_fields fs more) _ = false
  form_takes (annotated p t) s = takes p s

  pub fields_take : Pfs → Shf → Bool
  fields_take no_pat_fields ss = true
  fields_take (pat_field p n q fs) ss = takes q (shape_named ss (normal_of n)) && fields_take fs ss

-- some pattern takes the shape
abbrev pub one_takes : List Pt → Shp → Bool
one_takes [] s = false
one_takes (p ∷ ps) s = if takes p s then true else one_takes ps s

-- a shape that no pattern takes
pub record Misses (ds : List Dt) (ps : List Pt) (t : Cn) (s : Shp) : Type 0 where
  pub shape : ShapeOf ds (patterns_depth ps) t s
  pub missed : one_takes ps s ≡ false

-- the type of a part that lies no deeper than a depth is too large
pub data TooLargeIn : List Dt → ℕ → Cn → Type 0 where
  -- t, whose normal form is too large
  itself : {ds : List Dt} {d : ℕ} {t : Cn}
      → normal_of t ≡ None
      → TooLargeIn ds (suc d) t
  -- d t .., where what a constructor holds at t .. has such a part
  in_held : {ds : List Dt} {d : ℕ} (j : ℕ) {t n held : Cn} {x : Dt} {args : List Cn} {c : Cd}
      → normal_of t ≡ Some n
      → seen ds n ≡ a_datatype x args
      → slice_get x.constructors j ≡ Some c
      → c.holds ≡ Some held
      → TooLargeIn ds d (held_at args held)
      → TooLargeIn ds (suc d) t
  -- $[x = u, ..], where u has such a part
  in_field : {ds : List Dt} {d : ℕ} (x : Cn) {t n u : Cn} {fs : List (Cn × Cn)}
      → normal_of t ≡ Some n
      → seen ds n ≡ a_record fs
      → Contains fs (x, u)
      → TooLargeIn ds d u
      → TooLargeIn ds (suc d) t

-- how deep types are looked at: where the deepest constructor, record or literal stands, and at least at the type
-- itself
abbrev pub levels : List Pt → ℕ
levels ps = max 1 (patterns_depth ps)

-- no part's type is too large, and each shape is taken
pub record Covers (ds : List Dt) (ps : List Pt) (t : Cn) : Type 0 where
  pub small : TooLargeIn ds (levels ps) t → ⊥
  pub taken : (s : Shp) → ShapeOf ds (patterns_depth ps) t s → one_takes ps s ≡ true
