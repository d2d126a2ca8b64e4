-- What clauses say of a cell, a pass and a turn.
use Rattle.std.specs.Prelude.{◌≡◌, ℕ, false, List, [], Option}
use Rattle.atomic_table.specs.Seated.{TableId}
use Rattle.commit_cell.specs.declared.view.Known.{Known}
use Rattle.commit_cell.specs.declared.replays.Replays.{Ghosts}
use Rattle.commit_cell.specs.declared.cell.Cell.{Cell}
use Rattle.commit_cell.specs.declared.pass.Pass.{Pass}
use Rattle.commit_cell.specs.declared.turn.Turn.{Turn}
use Rattle.commit_cell.specs.History.{StartsWith}
use Rattle.commit_cell.specs.World.{IsCounted, Owns, looked}
use Rattle.commit_cell.specs.Rule.{from, HoldsTurn, IsNextOf}

module _ {S E : Type 0} where
  -- which cell it is
  abbrev pub cell_id : Cell S E → TableId
  cell_id c = c.table.shared.table_id

  -- how many passes the cell gave out
  abbrev pub given : Cell S E → ℕ
  given c = c.given

  -- the later state is of the same cell, so its passes are still of it
  abbrev pub IsSameCell : Cell S E → Cell S E → Type 0
  IsSameCell c d = cell_id d ≡ cell_id c

  -- the value that the turn holds
  abbrev pub value_of : Turn S E → S
  value_of t = t.value

  -- the turn with this value
  abbrev pub with_value : Turn S E → S → Turn S E
  with_value t x = record { value = x; taken = t.taken }

module _ {S E : Type 0} {G : Ghosts S E} where
  -- the cell that the pass is of
  abbrev pub cell_of : Pass S E G → TableId
  cell_of p = p.seat.table_id

  -- what the pass knows
  abbrev pub known : Pass S E G → Known E
  known p = p.seat.me.0.known

  abbrev pub number : Pass S E G → ℕ
  number p = (known p).number

  abbrev pub seen : Pass S E G → List E
  seen p = (known p).seen

  abbrev pub mine : Pass S E G → List E
  mine p = (known p).mine

  abbrev pub gathered : Pass S E G → List (ℕ × List E)
  gathered p = (known p).gathered

  -- the value that the cell was started with
  abbrev pub opening : Pass S E G → Option S
  opening p = p.seat.me.0.opening

  abbrev pub HasTurn : Pass S E G → Type 0
  HasTurn p = HoldsTurn p.seat.me

  abbrev pub HasNoTurn : Pass S E G → Type 0
  HasNoTurn p = (p.seat.me.0.acts ≡ false) × (p.seat.me.1 ≡ [])

  abbrev pub IsOf : Cell S E → Pass S E G → Type 0
  IsOf c p = cell_of p ≡ cell_id c

  -- the pass is of the cell and has no turn
  abbrev pub IsFreeOf : Cell S E → Pass S E G → Type 0
  IsFreeOf c p = IsOf c p × HasNoTurn p

  -- the turn is of the pass's cell, and of its number
  abbrev pub IsTurnOf : Turn S E → Pass S E G → Type 0
  IsTurnOf t p = (t.taken.value.table_id ≡ cell_of p) × (t.taken.value.me.0.known.number ≡ number p)

  -- the value stands for the history, from the opening value
  abbrev pub StandsFor : (S → List E → S → Type 0) → Pass S E G → List E → S → Type 0
  StandsFor stands p log x = from stands (opening p) log x

  -- the pass may give the entry: it has the pass's number and the next serial
  abbrev pub MayGive : (E → ℕ) → (E → ℕ) → Pass S E G → E → Type 0
  MayGive number_of serial_of p e = IsNextOf number_of serial_of (known p) e

  -- The pass takes the turn: it is as before but for what it has seen, and the value stands for that. What it has
  -- seen goes on from what it had seen, and has all that it made; that it is the whole history is the rule of the
  -- table alone (`Turned`). No number was gathered twice.
  pub record TakesTurn (number_of serial_of : E → ℕ) (stands : S → List E → S → Type 0)
      (c : Cell S E) (p q : Pass S E G) (t : Turn S E) : Type 0 where
    pub is_of : IsOf c q
    pub has_turn : HasTurn q
    pub is_turn : IsTurnOf t q
    pub known_is : known q ≡ looked (known p) (seen q)
    pub opening_is : opening q ≡ opening p
    pub begins : StartsWith (seen q) (seen p)
    pub whole : Owns number_of serial_of (seen q) (known q)
    pub counted : IsCounted (seen q) (known q)
    pub stands_for : StandsFor stands q (seen q) (value_of t)

  -- the pass is free and knows what it knew
  abbrev pub StaysFree : Cell S E → Pass S E G → Pass S E G → Type 0
  StaysFree c p q = IsFreeOf c q × (known q ≡ known p) × (opening q ≡ opening p)

  -- The value stands for a history that goes on from what the pass had seen, in which the pass's entries are its own
  -- and those of each gathered number the list gathered with it; no number was gathered twice
  pub record Closes (number_of serial_of : E → ℕ) (stands : S → List E → S → Type 0)
      (p : Pass S E G) (x : S) : Type 0 where
    pub log : List E
    pub begins : StartsWith log (seen p)
    pub stands_for : StandsFor stands p log x
    pub owns : Owns number_of serial_of log (known p)
    pub counted : IsCounted log (known p)
