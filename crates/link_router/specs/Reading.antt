-- How pieces are read as values of given shapes, from left to right; and where that fails.
use Rattle.std.specs.Prelude.{◌≡◌, ℕ, ℤ, List, [], ◌∷◌, Option, Some, None, slice_get, codes, IsUtf8, FitsSigned, ◌⊎◌}
use Rattle.std.specs.Int.{w64}
use Rattle.std.specs.List.{Contains}
use Rattle.std.specs.Fmt.{signed_decimal}
use Rattle.table_rows.specs.Wires.{Wr, int, words, unit, rec_of, bare, tagged, Wrs, no_wires, wire}
use Rattle.table_rows.specs.Shapes.{Sh, an_int, a_text, a_unit, a_truth, a_record, a_data, parameter, Shs, no_shapes, shape, Pts, no_parts, part, Cases, at_arguments}

-- a piece is the decimal form of a number of 64 bits
pub record IsNumber (p : List ℕ) (z : ℤ) : Type 0 where
  pub fits : FitsSigned w64 z
  pub decimal : p ≡ signed_decimal z

-- a piece is a text behind _
pub record IsWords (p t : List ℕ) : Type 0 where
  pub utf8 : IsUtf8 t
  pub behind : p ≡ 95 ∷ t

-- True or False
abbrev pub IsTruth : List ℕ → Type 0
IsTruth p = (p ≡ codes "True") ⊎ (p ≡ codes "False")

-- a piece is a constructor's name
abbrev pub Names : Cases → List ℕ → Type 0
Names cs p = (held : Option Sh) × Contains cs (p, held)

mutual
  -- the first pieces are the value, and the others are left
  pub data Reads : List Cases → Sh → List (List ℕ) → Wr → List (List ℕ) → Type 0 where
    reads_int : {D : List Cases} {p : List ℕ} {ps : List (List ℕ)} {z : ℤ}
        → IsNumber p z
        → Reads D an_int (p ∷ ps) (int z) ps
    reads_text : {D : List Cases} {p t : List ℕ} {ps : List (List ℕ)}
        → IsWords p t
        → Reads D a_text (p ∷ ps) (words t) ps
    reads_unit : {D : List Cases} {ps : List (List ℕ)} → Reads D a_unit ps unit ps
    reads_truth : {D : List Cases} {p : List ℕ} {ps : List (List ℕ)} → IsTruth p → Reads D a_truth (p ∷ ps) (bare p) ps
    reads_record : {D : List Cases} {fs : Pts} {ps qs : List (List ℕ)} {ws : Wrs}
        → ReadsParts D fs ps ws qs
        → Reads D (a_record fs) ps (rec_of ws) qs
    reads_bare : {D : List Cases} {d : ℕ} {ss : Shs} {cs : Cases} {p : List ℕ} {ps : List (List ℕ)}
        → slice_get D d ≡ Some cs
        → Contains cs (p, None)
        → Reads D (a_data d ss) (p ∷ ps) (bare p) ps
    reads_tagged : {D : List Cases} {d : ℕ} {ss : Shs} {cs : Cases} {s : Sh} {p : List ℕ}
        {ps qs : List (List ℕ)} {w : Wr}
        → slice_get D d ≡ Some cs
        → Contains cs (p, Some s)
        → Reads D (at_arguments ss s) ps w qs
        → Reads D (a_data d ss) (p ∷ ps) (tagged p w) qs

  pub data ReadsParts : List Cases → Pts → List (List ℕ) → Wrs → List (List ℕ) → Type 0 where
    reads_no_part : {D : List Cases} {ps : List (List ℕ)} → ReadsParts D no_parts ps no_wires ps
    reads_part : {D : List Cases} {n : List ℕ} {s : Sh} {fs : Pts} {ps qs rs : List (List ℕ)} {w : Wr} {ws : Wrs}
        → Reads D s ps w qs
        → ReadsParts D fs qs ws rs
        → ReadsParts D (part n s fs) ps (wire w ws) rs

-- the values of all arguments
pub data ReadsAll : List Cases → Shs → List (List ℕ) → Wrs → List (List ℕ) → Type 0 where
  reads_none : {D : List Cases} {ps : List (List ℕ)} → ReadsAll D no_shapes ps no_wires ps
  reads_one : {D : List Cases} {s : Sh} {ss : Shs} {ps qs rs : List (List ℕ)} {w : Wr} {ws : Wrs}
      → Reads D s ps w qs
      → ReadsAll D ss qs ws rs
      → ReadsAll D (shape s ss) ps (wire w ws) rs

-- what stops the reading: a piece that isn't of its part's form, from which on these pieces are left; or no piece for
-- a part
pub data Stop : Type 0 where
  bad : List (List ℕ) → Stop
  few : Stop

mutual
  -- reading a value of the shape stops here
  pub data Stops : List Cases → Sh → List (List ℕ) → Stop → Type 0 where
    few_for_int : {D : List Cases} → Stops D an_int [] few
    few_for_text : {D : List Cases} → Stops D a_text [] few
    few_for_truth : {D : List Cases} → Stops D a_truth [] few
    few_for_data : {D : List Cases} {d : ℕ} {ss : Shs} → Stops D (a_data d ss) [] few
    few_for_parameter : {D : List Cases} {i : ℕ} → Stops D (parameter i) [] few
    no_int : {D : List Cases} {p : List ℕ} {ps : List (List ℕ)}
        → ((z : ℤ) → IsNumber p z → ⊥)
        → Stops D an_int (p ∷ ps) (bad (p ∷ ps))
    no_text : {D : List Cases} {p : List ℕ} {ps : List (List ℕ)}
        → ((t : List ℕ) → IsWords p t → ⊥)
        → Stops D a_text (p ∷ ps) (bad (p ∷ ps))
    no_truth : {D : List Cases} {p : List ℕ} {ps : List (List ℕ)}
        → (IsTruth p → ⊥)
        → Stops D a_truth (p ∷ ps) (bad (p ∷ ps))
    no_data : {D : List Cases} {d : ℕ} {ss : Shs} {cs : Cases} {p : List ℕ} {ps : List (List ℕ)}
        → slice_get D d ≡ Some cs
        → (Names cs p → ⊥)
        → Stops D (a_data d ss) (p ∷ ps) (bad (p ∷ ps))
    -- no piece is of the form of a datatype or an argument that isn't there
    no_datatype : {D : List Cases} {d : ℕ} {ss : Shs} {p : List ℕ} {ps : List (List ℕ)}
        → slice_get D d ≡ None
        → Stops D (a_data d ss) (p ∷ ps) (bad (p ∷ ps))
    no_argument : {D : List Cases} {i : ℕ} {p : List ℕ} {ps : List (List ℕ)}
        → Stops D (parameter i) (p ∷ ps) (bad (p ∷ ps))
    in_record : {D : List Cases} {fs : Pts} {ps : List (List ℕ)} {x : Stop}
        → StopsParts D fs ps x
        → Stops D (a_record fs) ps x
    in_held : {D : List Cases} {d : ℕ} {ss : Shs} {cs : Cases} {s : Sh} {p : List ℕ} {ps : List (List ℕ)} {x : Stop}
        → slice_get D d ≡ Some cs
        → Contains cs (p, Some s)
        → Stops D (at_arguments ss s) ps x
        → Stops D (a_data d ss) (p ∷ ps) x

  -- reading fields stops in the first that can't be read
  pub data StopsParts : List Cases → Pts → List (List ℕ) → Stop → Type 0 where
    in_part : {D : List Cases} {n : List ℕ} {s : Sh} {fs : Pts} {ps : List (List ℕ)} {x : Stop}
        → Stops D s ps x
        → StopsParts D (part n s fs) ps x
    in_later_part : {D : List Cases} {n : List ℕ} {s : Sh} {fs : Pts} {ps qs : List (List ℕ)} {w : Wr} {x : Stop}
        → Reads D s ps w qs
        → StopsParts D fs qs x
        → StopsParts D (part n s fs) ps x

-- reading arguments stops in the first that can't be read
pub data StopsAll : List Cases → Shs → List (List ℕ) → Stop → Type 0 where
  in_argument : {D : List Cases} {s : Sh} {ss : Shs} {ps : List (List ℕ)} {x : Stop}
      → Stops D s ps x
      → StopsAll D (shape s ss) ps x
  in_later : {D : List Cases} {s : Sh} {ss : Shs} {ps qs : List (List ℕ)} {w : Wr} {x : Stop}
      → Reads D s ps w qs
      → StopsAll D ss qs x
      → StopsAll D (shape s ss) ps x
