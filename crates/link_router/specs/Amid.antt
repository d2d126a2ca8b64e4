-- A value that is read amid others: what waits for it, and what comes of it.
use Rattle.std.specs.Prelude.{◌≡◌, ℕ, List, [], ◌∷◌, ◌++◌, ◌⊎◌}
use Rattle.table_rows.specs.Wires.{Wr, rec_of, tagged, Wrs, wire}
use Rattle.table_rows.specs.Shapes.{Sh, Pts, Cases}
use Rattle.link_router.specs.Reading.{Reads, ReadsParts, Stop, Stops, StopsParts}

-- what waits for a value
pub data Waiting : Type 0 where
  -- a record: the values of its fields before, and the fields behind
  fields : List Wr → Pts → Waiting
  -- a constructor, by its name
  holds : List ℕ → Waiting

-- values in front of others
abbrev pub in_front : List Wr → Wrs → Wrs
in_front [] vs = vs
in_front (w ∷ ws) vs = wire w (in_front ws vs)

-- With the value w read and the pieces ps behind it, what waits, the innermost first, comes to the value v with the
-- pieces qs behind it.
abbrev pub Completes : List Cases → List Waiting → Wr → List (List ℕ) → Wr → List (List ℕ) → Type 0
Completes D [] w ps v qs = (w ≡ v) × (ps ≡ qs)
Completes D (holds n ∷ ls) w ps v qs = Completes D ls (tagged n w) ps v qs
Completes D (fields ws fs ∷ ls) w ps v qs =
    (us : Wrs) × (rs : List (List ℕ)) × ReadsParts D fs ps us rs
    × Completes D ls (rec_of (in_front ws (wire w us))) rs v qs

-- Or it stops behind that value.
abbrev pub Halts : List Cases → List Waiting → Wr → List (List ℕ) → Stop → Type 0
Halts D [] w ps x = ⊥
Halts D (holds n ∷ ls) w ps x = Halts D ls (tagged n w) ps x
Halts D (fields ws fs ∷ ls) w ps x =
    StopsParts D fs ps x
    ⊎ ((us : Wrs) × (rs : List (List ℕ)) × ReadsParts D fs ps us rs
    × Halts D ls (rec_of (in_front ws (wire w us))) rs x)

-- how far a reading came: with these waiting and these pieces left, a value of a shape is wanted, or one was read
pub data Amid : Type 0 where
  wants : List Waiting → Sh → List (List ℕ) → Amid
  has : List Waiting → Wr → List (List ℕ) → Amid

abbrev pub ComesTo : List Cases → Amid → Wr → List (List ℕ) → Type 0
ComesTo D (wants ls s ps) v qs = (w : Wr) × (rs : List (List ℕ)) × Reads D s ps w rs × Completes D ls w rs v qs
ComesTo D (has ls w ps) v qs = Completes D ls w ps v qs

abbrev pub EndsAt : List Cases → Amid → Stop → Type 0
EndsAt D (wants ls s ps) x = Stops D s ps x ⊎ ((w : Wr) × (rs : List (List ℕ)) × Reads D s ps w rs × Halts D ls w rs x)
EndsAt D (has ls w ps) x = Halts D ls w ps x

-- What the second reading comes to or stops at, the first does.
pub record LeadsTo (D : List Cases) (a b : Amid) : Type 0 where
  pub comes : (v : Wr) (qs : List (List ℕ)) → ComesTo D b v qs → ComesTo D a v qs
  pub ends : (x : Stop) → EndsAt D b x → EndsAt D a x
