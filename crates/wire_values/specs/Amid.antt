-- A value that is made of a wire amid others: what waits for it, and what may come of it.
use Rattle.std.specs.Prelude.{◌≡◌, ℕ, List, [], ◌∷◌}
use Rattle.table_rows.specs.Shapes.{Sh, Pts}
use Rattle.table_rows.specs.Wires.{Wr, Wrs}
use Rattle.value_trees.specs.Values.{V, of_fields, of_holding, Slots, slot, slots_and}
use Rattle.core_meaning.specs.Wired.{Known, HasValue, HaveValues}

-- what waits for a value
pub data Waiting : Type 0 where
  -- a record: its fields before, the symbol of the field that is awaited, and the fields behind it with their wires
  fields : Slots → ℕ → Pts → Wrs → Waiting
  -- a constructor: its datatype's symbol, and its place
  holds : ℕ → ℕ → Waiting

-- What waits, the innermost first, may make the second value of the first.
abbrev pub Completes : Known → List Waiting → V → V → Type 0
Completes K [] v u = v ≡ u
Completes K (holds s j ∷ ls) v u = Completes K ls (of_holding s j v) u
Completes K (fields ss x ps ws ∷ ls) v u =
    (rest : Slots) × HaveValues K ps ws rest × Completes K ls (of_fields (slots_and ss (slot x v rest))) u

-- how far the making came: with these waiting, a value of a shape is wanted of a wire, further fields of a record are
-- wanted of wires, or a value is there
pub data Amid : Type 0 where
  wants : List Waiting → Sh → Wr → Amid
  fills : List Waiting → Slots → Pts → Wrs → Amid
  has : List Waiting → V → Amid

-- the values that may come of it in the end
abbrev pub ComesTo : Known → Amid → V → Type 0
ComesTo K (wants ls s w) u = (v : V) × HasValue K s w v × Completes K ls v u
ComesTo K (fills ls ss ps ws) u =
    (rest : Slots) × HaveValues K ps ws rest × Completes K ls (of_fields (slots_and ss rest)) u
ComesTo K (has ls v) u = Completes K ls v u

-- What the second comes to, the first does.
pub record LeadsTo (K : Known) (a b : Amid) : Type 0 where
  pub comes : (u : V) → ComesTo K b u → ComesTo K a u
