-- The values that links carry: from a value to what a link writes.
use Rattle.std.specs.Prelude.{ℕ, List, [], ◌∷◌, Option, Some, None, slice_get, if◌then◌else◌}
use Rattle.std.specs.Ordering.{is_lt, nat_cmp}
use Rattle.std.specs.Cmp.Lexicographic.{slice_cmp}
use Rattle.table_rows.specs.Wires.{Wr, int, words, unit, rec_of, bare, tagged, Wrs, no_wires, wire}
use Rattle.core_terms.specs.Trees.{Dt}
use Rattle.core_terms.specs.Datatypes.{datatype_of}
use Rattle.value_trees.specs.Values.{V, of_number, of_text, of_fields, of_bare, of_holding, Slots, no_slots, slot}

-- the text of a constructor's name
abbrev pub constructor_text : List (List ℕ) → List Dt → ℕ → ℕ → Option (List ℕ)
constructor_text names ds s j =
    elim (datatype_of ds s) [
      | None ↦ None
      | Some d ↦ elim
          (slice_get d.constructors j) [ None ↦ None | Some c ↦ slice_get names c.name ]
    ]

-- fields with the texts of their names, in byte order
abbrev pub put_field : List ℕ → Wr → List (List ℕ × Wr) → List (List ℕ × Wr)
put_field n w [] = (n, w) ∷ []
put_field n w (f ∷ fs) = if is_lt (slice_cmp nat_cmp f.0 n) then f ∷ put_field n w fs else (n, w) ∷ f ∷ fs

abbrev pub in_order : List (List ℕ × Wr) → Wrs
in_order [] = no_wires
in_order (f ∷ fs) = wire f.1 (in_order fs)

-- a record; {} is written as nothing
abbrev pub record_wire : List (List ℕ × Wr) → Wr
record_wire [] = unit
record_wire (f ∷ fs) = rec_of (in_order (f ∷ fs))

abbrev pub both : Option (List ℕ) → Option Wr → Option (List (List ℕ × Wr)) → Option (List (List ℕ × Wr))
both (Some n) (Some w) (Some fs) = Some (put_field n w fs)
both _ _ _ = None

abbrev mutual
  -- what a link writes for a value; functions, pages and actions aren't carried
  pub wire_of : List (List ℕ) → List Dt → V → Option Wr
  wire_of names ds (of_number z) = Some (int z)
  wire_of names ds (of_text t) = Some (words t)
  wire_of names ds (of_fields ss) = elim (slots_wire names ds ss) [ None ↦ None | Some fs ↦ Some (record_wire fs) ]
  wire_of names ds (of_bare s j) = elim (constructor_text names ds s j) [ None ↦ None | Some n ↦ Some (bare n) ]
  wire_of names ds (of_holding s j v) =
      elim (constructor_text names ds s j) [
        | None ↦ None
        | Some n ↦ elim
            (wire_of names ds v) [ None ↦ None | Some w ↦ Some (tagged n w) ]
      ]
  wire_of names ds _ = None

  pub slots_wire : List (List ℕ) → List Dt → Slots → Option (List (List ℕ × Wr))
  slots_wire names ds no_slots = Some []
  slots_wire names ds (slot x v ss) = both (slice_get names x) (wire_of names ds v) (slots_wire names ds ss)

abbrev pub wires_of : List (List ℕ) → List Dt → List V → Option Wrs
wires_of names ds [] = Some no_wires
wires_of names ds (v ∷ vs) =
    elim (wire_of names ds v) [
      | None ↦ None
      | Some w ↦ elim
          (wires_of names ds vs) [ None ↦ None | Some ws ↦ Some (wire w ws) ]
    ]
