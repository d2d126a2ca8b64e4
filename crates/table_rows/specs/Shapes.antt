-- Which values have which shape.
use Rattle.std.specs.Prelude.{◌≡◌, ℕ, ℤ, List, [], ◌∷◌, Option, Some, None, slice_get, codes}
use Rattle.std.specs.List.{Contains}
use Rattle.table_rows.specs.Wires.{Wr, int, words, unit, rec_of, bare, tagged, Wrs, no_wires, wire}

mutual
  pub data Sh : Type 0 where
    an_int : Sh
    a_text : Sh
    a_unit : Sh
    -- True or False
    a_truth : Sh
    -- a record with these fields, in the byte order of their names
    a_record : Pts → Sh
    -- a value of the datatype with this number, at these arguments
    a_data : ℕ → Shs → Sh
    -- in a datatype, its argument with this number
    parameter : ℕ → Sh

  pub data Shs : Type 0 where
    no_shapes : Shs
    shape : Sh → Shs → Shs

  -- fields, each with its name
  pub data Pts : Type 0 where
    no_parts : Pts
    part : List ℕ → Sh → Pts → Pts

-- a datatype: the names of its constructors, each with the shape of what it holds
abbrev pub Cases : Type 0
Cases = List (List ℕ × Option Sh)

-- the shapes one by one
abbrev pub shape_list : Shs → List Sh
shape_list no_shapes = []
shape_list (shape s ss) = s ∷ shape_list ss

-- the shape that stands at a place; no value has the shape of a parameter that isn't there
abbrev pub argument_at : Shs → ℕ → Sh
argument_at ss i = elim (slice_get (shape_list ss) i) [ Some s ↦ s | None ↦ parameter i ]

-- a shape with arguments put for the parameters
abbrev mutual
  pub at_arguments : Shs → Sh → Sh
  at_arguments ss an_int = an_int
  at_arguments ss a_text = a_text
  at_arguments ss a_unit = a_unit
  at_arguments ss a_truth = a_truth
  at_arguments ss (a_record ps) = a_record (parts_at_arguments ss ps)
  at_arguments ss (a_data d us) = a_data d (all_at_arguments ss us)
  at_arguments ss (parameter i) = argument_at ss i

  pub all_at_arguments : Shs → Shs → Shs
  all_at_arguments ss no_shapes = no_shapes
  all_at_arguments ss (shape u us) = shape (at_arguments ss u) (all_at_arguments ss us)

  pub parts_at_arguments : Shs → Pts → Pts
  parts_at_arguments ss no_parts = no_parts
  parts_at_arguments ss (part n u ps) = part n (at_arguments ss u) (parts_at_arguments ss ps)

mutual
  -- the value has the shape, where the datatypes are these
  pub data HasShape : List Cases → Sh → Wr → Type 0 where
    int_has : {D : List Cases} {z : ℤ} → HasShape D an_int (int z)
    text_has : {D : List Cases} {t : List ℕ} → HasShape D a_text (words t)
    unit_has : {D : List Cases} → HasShape D a_unit unit
    true_has : {D : List Cases} → HasShape D a_truth (bare (codes "True"))
    false_has : {D : List Cases} → HasShape D a_truth (bare (codes "False"))
    record_has : {D : List Cases} {ps : Pts} {ws : Wrs}
        → HaveParts D ps ws
        → HasShape D (a_record ps) (rec_of ws)
    bare_has : {D : List Cases} {d : ℕ} {ss : Shs} {cs : Cases} {n : List ℕ}
        → slice_get D d ≡ Some cs
        → Contains cs (n, None)
        → HasShape D (a_data d ss) (bare n)
    tagged_has : {D : List Cases} {d : ℕ} {ss : Shs} {cs : Cases} {n : List ℕ} {s : Sh} {w : Wr}
        → slice_get D d ≡ Some cs
        → Contains cs (n, Some s)
        → HasShape D (at_arguments ss s) w
        → HasShape D (a_data d ss) (tagged n w)

  -- the values are those of the fields, in order
  pub data HaveParts : List Cases → Pts → Wrs → Type 0 where
    no_parts_have : {D : List Cases} → HaveParts D no_parts no_wires
    part_has : {D : List Cases} {n : List ℕ} {s : Sh} {ps : Pts} {w : Wr} {ws : Wrs}
        → HasShape D s w
        → HaveParts D ps ws
        → HaveParts D (part n s ps) (wire w ws)

-- each value has its argument's shape
pub data HaveShapes : List Cases → Shs → Wrs → Type 0 where
  no_shapes_have : {D : List Cases} → HaveShapes D no_shapes no_wires
  shape_has : {D : List Cases} {s : Sh} {ss : Shs} {w : Wr} {ws : Wrs}
      → HasShape D s w
      → HaveShapes D ss ws
      → HaveShapes D (shape s ss) (wire w ws)
