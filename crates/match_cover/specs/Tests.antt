-- What a pattern asks of a value, without names, types and places: the names of fields are in normal form.
use Rattle.std.specs.Prelude.{ℕ, ℤ, Bool, true, false, ◌&&◌, ◌==◌, bytes_eq, List, [], ◌∷◌, Option, Some, None, if◌then◌else◌}
use Rattle.std.specs.Ordering.{int_eq}
use Rattle.con_terms.specs.Trees.{Cn}
use Rattle.row_normal.specs.SameTree.{cn_eq}
use Rattle.core_terms.specs.Trees.{Pt, pattern, Pf, any, binds, is_number, is_text, is_bare, is_holding, has_fields, annotated, Pfs, no_pat_fields, pat_field}
use Rattle.core_typing.specs.Scopes.{normal_of}
use Rattle.core_typing.specs.Cover.{Shp, leaf, number_shape, text_shape, bare_shape, holding_shape, record_shape, Shf, shape_named}

mutual
  pub data Ts : Type 0 where
    anything : Ts
    a_number : ℤ → Ts
    a_text : List ℕ → Ts
    -- a constructor of a datatype, by its symbol and its place in it
    a_bare : ℕ → ℕ → Ts
    a_holding : ℕ → ℕ → Ts → Ts
    some_fields : Tfs → Ts

  -- fields, each by its name, where that isn't too large, and what is asked of it
  pub data Tfs : Type 0 where
    no_tests : Tfs
    test_at : Option Cn → Ts → Tfs → Tfs

-- what a pattern asks
abbrev mutual
  pub test_of : Pt → Ts
  test_of (pattern p f) = form_test f

  pub form_test : Pf → Ts
  form_test any = anything
  form_test (binds x t) = anything
  form_test (is_number z) = a_number z
  form_test (is_text t) = a_text t
  form_test (is_bare s j) = a_bare s j
  form_test (is_holding s j p) = a_holding s j (test_of p)
  form_test (has_fields fs more) = some_fields (fields_test fs)
  form_test (annotated p t) = test_of p

  pub fields_test : Pfs → Tfs
  fields_test no_pat_fields = no_tests
  fields_test (pat_field p n q fs) = test_at (normal_of n) (test_of q) (fields_test fs)

-- a leaf where there is no shape
abbrev pub or_leaf : Option Shp → Shp
or_leaf None = leaf
or_leaf (Some s) = s

-- whether a value of a shape passes
abbrev mutual
  pub passes : Ts → Shp → Bool
  passes anything s = true
  passes (a_number z) (number_shape y) = int_eq z y
  passes (a_number z) _ = false
  passes (a_text t) (text_shape w) = bytes_eq t w
  passes (a_text t) _ = false
  passes (a_bare s j) (bare_shape r i) = (s == r) && (j == i)
  passes (a_bare s j) _ = false
  passes (a_holding s j t) (holding_shape r i h) = (s == r) && ((j == i) && passes t h)
  passes (a_holding s j t) _ = false
  passes (some_fields fs) (record_shape ss) = fields_pass fs ss
  passes (some_fields fs) _ = false

  pub fields_pass : Tfs → Shf → Bool
  fields_pass no_tests ss = true
  fields_pass (test_at n t fs) ss = passes t (shape_named ss n) && fields_pass fs ss

-- tests one after another
abbrev pub tests_then : Tfs → Tfs → Tfs
tests_then no_tests more = more
tests_then (test_at n t fs) more = test_at n t (tests_then fs more)

-- whether a name, where there is one, is this one
abbrev pub is_named : Cn → Option Cn → Bool
is_named x None = false
is_named x (Some y) = cn_eq x y

-- what is asked of the field with a name, each by itself, and of the other fields
abbrev pub tests_named : Cn → Tfs → List Ts
tests_named x no_tests = []
tests_named x (test_at n t fs) = if is_named x n then t ∷ tests_named x fs else tests_named x fs

abbrev pub tests_not_named : Cn → Tfs → Tfs
tests_not_named x no_tests = no_tests
tests_not_named x (test_at n t fs) = if is_named x n then tests_not_named x fs else test_at n t (tests_not_named x fs)

-- whether all that is asked is passed by fields of which nothing is known
abbrev pub pass_leaves : Tfs → Bool
pass_leaves no_tests = true
pass_leaves (test_at n t fs) = passes t leaf && pass_leaves fs
