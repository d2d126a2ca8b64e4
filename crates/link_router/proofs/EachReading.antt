-- Whatever the pieces are, values of given shapes are read from them, or the reading stops.
use Rattle.std.proofs.Common.{◌≡◌, ℕ, zero, suc, ◌<◌, ◌≤◌, List, [], ◌∷◌, length}
use Rattle.std.proofs.Common.{Option, Some, None, slice_get, refl, inl, inr, arith}
use Rattle.std.specs.List.{Contains}
use Rattle.table_rows.specs.Wires.{Wr, int, words, unit, rec_of, bare, tagged, Wrs, no_wires, wire}
use Rattle.table_rows.specs.Shapes.{Sh, an_int, a_text, a_unit, a_truth, a_record, a_data, parameter}
use Rattle.table_rows.specs.Shapes.{Shs, no_shapes, shape, Pts, no_parts, part, Cases, at_arguments}
use Rattle.link_router.specs.Reading.{Reads, reads_int, reads_text, reads_unit, reads_truth, reads_record, reads_bare}
use Rattle.link_router.specs.Reading.{reads_tagged, ReadsParts, reads_no_part, reads_part}
use Rattle.link_router.specs.Reading.{ReadsAll, reads_none, reads_one}
use Rattle.link_router.specs.Reading.{Stop, bad, few, Stops, few_for_int, few_for_text, few_for_truth, few_for_data}
use Rattle.link_router.specs.Reading.{few_for_parameter, no_int, no_text, no_truth, no_data, no_datatype, no_argument}
use Rattle.link_router.specs.Reading.{in_record, in_held, StopsParts, in_part, in_later_part}
use Rattle.link_router.specs.Reading.{StopsAll, in_argument, in_later}
use Rattle.link_router.proofs.EachPiece.{a_number, some_words, a_truth_value, some_name}

-- A value of the shape is read, and no more pieces are left than there were; or the reading stops.
data Outcome (D : List Cases) (s : Sh) (ps : List (List ℕ)) : Type 0 where
  is_read : (w : Wr) (qs : List (List ℕ)) → Reads D s ps w qs → length qs ≤ length ps → Outcome D s ps
  is_stopped : (x : Stop) → Stops D s ps x → Outcome D s ps

data PartsOutcome (D : List Cases) (fs : Pts) (ps : List (List ℕ)) : Type 0 where
  are_read : (ws : Wrs) (qs : List (List ℕ)) → ReadsParts D fs ps ws qs → length qs ≤ length ps → PartsOutcome D fs ps
  are_stopped : (x : Stop) → StopsParts D fs ps x → PartsOutcome D fs ps

-- shapes of one piece
int_outcome : (D : List Cases) (ps : List (List ℕ)) → Outcome D an_int ps
int_outcome D [] = is_stopped few few_for_int
int_outcome D (p ∷ ps) = elim (a_number p) [
  | inl n ↦ is_read (int n.0) ps (reads_int n.1) (omega arith)
  | inr f ↦ is_stopped (bad (p ∷ ps)) (no_int (λ z n. f (z, n)))
]

text_outcome : (D : List Cases) (ps : List (List ℕ)) → Outcome D a_text ps
text_outcome D [] = is_stopped few few_for_text
text_outcome D (p ∷ ps) = elim (some_words p) [
  | inl n ↦ is_read (words n.0) ps (reads_text n.1) (omega arith)
  | inr f ↦ is_stopped (bad (p ∷ ps)) (no_text (λ t n. f (t, n)))
]

truth_outcome : (D : List Cases) (ps : List (List ℕ)) → Outcome D a_truth ps
truth_outcome D [] = is_stopped few few_for_truth
truth_outcome D (p ∷ ps) = elim (a_truth_value p) [
  | inl t ↦ is_read (bare p) ps (reads_truth t) (omega arith)
  | inr f ↦ is_stopped (bad (p ∷ ps)) (no_truth f)
]

-- an argument that isn't there
parameter_outcome : (D : List Cases) (i : ℕ) (ps : List (List ℕ)) → Outcome D (parameter i) ps
parameter_outcome D i [] = is_stopped few few_for_parameter
parameter_outcome D i (p ∷ ps) = is_stopped (bad (p ∷ ps)) no_argument

-- At fewer pieces each shape has its outcome. A constructor's name is a piece, so what it holds has fewer.
abbrev AtFewer : List Cases → ℕ → Type 0
AtFewer D n = (s : Sh) (ps : List (List ℕ)) → length ps < n → Outcome D s ps

held_outcome : {D : List Cases} {d : ℕ} {ss : Shs} {cs : Cases} {s : Sh} {p : List ℕ} {ps : List (List ℕ)}
    → slice_get D d ≡ Some cs
    → Contains cs (p, Some s)
    → Outcome D (at_arguments ss s) ps
    → Outcome D (a_data d ss) (p ∷ ps)
held_outcome {p = p} e i (is_read w qs r l) = is_read (tagged p w) qs (reads_tagged e i r) (omega (arith, l))
held_outcome e i (is_stopped x t) = is_stopped x (in_held e i t)

module _ (D : List Cases) (n : ℕ) (below : AtFewer D n) where
  named_outcome : (d : ℕ) (ss : Shs) (cs : Cases) (p : List ℕ) (ps : List (List ℕ)) (held : Option Sh)
      → length ps < n
      → slice_get D d ≡ Some cs
      → Contains cs (p, held)
      → Outcome D (a_data d ss) (p ∷ ps)
  named_outcome d ss cs p ps None h e i = is_read (bare p) ps (reads_bare e i) (omega arith)
  named_outcome d ss cs p ps (Some s) h e i = held_outcome e i (below (at_arguments ss s) ps h)

  cases_outcome : (d : ℕ) (ss : Shs) (p : List ℕ) (ps : List (List ℕ)) (o : Option Cases)
      → length ps < n
      → slice_get D d ≡ o
      → Outcome D (a_data d ss) (p ∷ ps)
  cases_outcome d ss p ps None h e = is_stopped (bad (p ∷ ps)) (no_datatype e)
  cases_outcome d ss p ps (Some cs) h e = elim (some_name cs p) [
    | inl m ↦ named_outcome d ss cs p ps m.0 h e m.1
    | inr f ↦ is_stopped (bad (p ∷ ps)) (no_data e f)
  ]

  data_outcome : (d : ℕ) (ss : Shs) (ps : List (List ℕ)) → length ps < suc n → Outcome D (a_data d ss) ps
  data_outcome d ss [] h = is_stopped few few_for_data
  data_outcome d ss (p ∷ ps) h = cases_outcome d ss p ps (slice_get D d) (omega (arith, h)) refl

-- records
record_outcome : {D : List Cases} {fs : Pts} {ps : List (List ℕ)} → PartsOutcome D fs ps → Outcome D (a_record fs) ps
record_outcome (are_read ws qs r l) = is_read (rec_of ws) qs (reads_record r) l
record_outcome (are_stopped x t) = is_stopped x (in_record t)

later_parts : {D : List Cases} {m : List ℕ} {s : Sh} {fs : Pts} {ps qs : List (List ℕ)} {w : Wr}
    → Reads D s ps w qs
    → length qs ≤ length ps
    → PartsOutcome D fs qs
    → PartsOutcome D (part m s fs) ps
later_parts {w = w} r l (are_read ws rs k g) = are_read (wire w ws) rs (reads_part r k) (omega (arith, l, g))
later_parts r l (are_stopped x t) = are_stopped x (in_later_part r t)

part_outcome : {D : List Cases} {m : List ℕ} {s : Sh} {fs : Pts} {ps : List (List ℕ)}
    → Outcome D s ps
    → ((qs : List (List ℕ)) → length qs ≤ length ps → PartsOutcome D fs qs)
    → PartsOutcome D (part m s fs) ps
part_outcome (is_read w qs r l) rest = later_parts r l (rest qs l)
part_outcome (is_stopped x t) rest = are_stopped x (in_part t)

-- all shapes, along the shape
mutual
  value_outcome : (D : List Cases) (n : ℕ) → AtFewer D n → AtFewer D (suc n)
  value_outcome D n below an_int ps h = int_outcome D ps
  value_outcome D n below a_text ps h = text_outcome D ps
  value_outcome D n below a_unit ps h = is_read unit ps reads_unit (omega arith)
  value_outcome D n below a_truth ps h = truth_outcome D ps
  value_outcome D n below (a_record fs) ps h = record_outcome (parts_outcome D n below fs ps h)
  value_outcome D n below (a_data d ss) ps h = data_outcome D n below d ss ps h
  value_outcome D n below (parameter i) ps h = parameter_outcome D i ps

  parts_outcome : (D : List Cases) (n : ℕ) → AtFewer D n → (fs : Pts) (ps : List (List ℕ))
      → length ps < suc n
      → PartsOutcome D fs ps
  parts_outcome D n below no_parts ps h = are_read no_wires ps reads_no_part (omega arith)
  parts_outcome D n below (part m s fs) ps h =
      part_outcome (value_outcome D n below s ps h) (λ qs l. parts_outcome D n below fs qs (omega (arith, h, l)))

-- and along the number of pieces
at_fewer : (D : List Cases) (n : ℕ) → AtFewer D n
at_fewer D zero s ps h = absurd (omega (arith, h))
at_fewer D (suc n) s ps h = value_outcome D n (at_fewer D n) s ps h

-- The values of all arguments are read, or the reading stops.
pub data AllOutcome (D : List Cases) (ss : Shs) (ps : List (List ℕ)) : Type 0 where
  all_read : (ws : Wrs) (qs : List (List ℕ)) → ReadsAll D ss ps ws qs → AllOutcome D ss ps
  all_stopped : (x : Stop) → StopsAll D ss ps x → AllOutcome D ss ps

later_all : {D : List Cases} {s : Sh} {ss : Shs} {ps qs : List (List ℕ)} {w : Wr}
    → Reads D s ps w qs
    → AllOutcome D ss qs
    → AllOutcome D (shape s ss) ps
later_all {w = w} r (all_read ws rs k) = all_read (wire w ws) rs (reads_one r k)
later_all r (all_stopped x t) = all_stopped x (in_later r t)

one_of_all : {D : List Cases} {s : Sh} {ss : Shs} {ps : List (List ℕ)}
    → Outcome D s ps
    → ((qs : List (List ℕ)) → AllOutcome D ss qs)
    → AllOutcome D (shape s ss) ps
one_of_all (is_read w qs r l) rest = later_all r (rest qs)
one_of_all (is_stopped x t) rest = all_stopped x (in_argument t)

pub all_outcome : (D : List Cases) (ss : Shs) (ps : List (List ℕ)) → AllOutcome D ss ps
all_outcome D no_shapes ps = all_read no_wires ps reads_none
all_outcome D (shape s ss) ps =
    one_of_all (at_fewer D (suc (length ps)) s ps (omega arith)) (λ qs. all_outcome D ss qs)
