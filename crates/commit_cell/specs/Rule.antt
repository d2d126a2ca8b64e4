-- The rule of the cell's table, and what each step tells. Word 0 is the turn: 0 free, 1 taken, 2 taken while others
-- may sleep for it. Word 1 is the next number. Slot 0 has the value.
use Rattle.std.specs.Prelude.{◌≡◌, ◌≢◌, ℕ, ◌≤◌, true, false, List, [], ◌∷◌, ◌++◌, length, map, cond, slice_index, All, Option, Some, None, is_some}
use mathlib.Core.Option.{some}
use lib.ListN.{get_elem?}
use Rattle.atomic_table.specs.Table.{State, Me, Step}
use Rattle.commit_cell.specs.declared.view.Known.{Known}
use Rattle.commit_cell.specs.declared.view.View.{View}
use Rattle.commit_cell.specs.History.{StartsWith}
use Rattle.commit_cell.specs.World.{World, Facts, IsCounted, Owns, newcomer, looked, committed, joined}

module _ {E : Type 0} where
  -- the history once this was given
  abbrev pub history_after : List E → Option E → List E
  history_after log None = log
  history_after log (Some e) = log ++ e ∷ []

  -- what a pass that has seen the whole history knows once it has given this
  abbrev pub known_after : Known E → Option E → Known E
  known_after p None = p
  known_after p (Some e) = committed p p.seen e

module _ {S E : Type 0} where
  -- the value stands for the history, from the opening value
  abbrev pub from : (S → List E → S → Type 0) → Option S → List E → S → Type 0
  from stands None log x = ⊥
  from stands (Some o) log x = stands o log x

  -- the first seat's view: a pass with number 0
  abbrev pub first_view : S → View S E
  first_view x = record { opening = Some x; known = newcomer 0 []; told = []; live = true; acts = false }

  -- the seat has the turn, and has seen the whole history
  abbrev pub acting : View S E → List E → View S E
  acting v log = record { opening = v.opening; known = looked v.known log; told = v.told; live = v.live; acts = true }

  -- the turn is given back
  abbrev pub given_back : View S E → Option E → View S E
  given_back v given = record {
    opening = v.opening;
    known = known_after v.known given;
    told = v.told;
    live = v.live;
    acts = false;
  }

  -- a seat that has seen as much, and has no number yet
  abbrev pub unnumbered : View S E → View S E
  unnumbered v = record { opening = v.opening; known = newcomer 0 v.known.seen; told = []; live = false; acts = false }

  -- that seat, with its number
  abbrev pub numbered : View S E → ℕ → View S E
  numbered v n = record {
    opening = v.opening;
    known = newcomer n v.known.seen;
    told = v.told;
    live = true;
    acts = false;
  }

  -- a pass with another joined into it
  abbrev pub both : View S E → View S E → View S E
  both v w = record {
    opening = v.opening;
    known = joined v.known w.known;
    told = v.known.seen ∷ w.known.seen ∷ [];
    live = v.live;
    acts = v.acts;
  }

  -- what is left of a seat that was joined into another
  abbrev pub spent : View S E
  spent = record { opening = None; known = newcomer 0 []; told = []; live = false; acts = false }

  -- the pass that the seat is, if it is one
  abbrev pub pass_of : View S E → Option (Known E)
  pass_of v = cond v.live (Some v.known) None

  -- the world that the table shows, with this history
  abbrev pub shown_world : List E → State (Option S) (View S E) → World E
  shown_world log s = record { history = log; given = slice_index s.words 1; passes = map pass_of s.views }

  -- what the rule says of each view
  pub record Fits (opening : S) (log : List E) (v : View S E) : Type 0 where
    pub opening_is : (o : S) → v.opening ≡ Some o → o ≡ opening
    pub acts : v.acts ≡ true → v.live ≡ true
    pub seen : StartsWith log v.known.seen
    pub told : All (StartsWith log) v.told

  -- one view has the turn, and has seen the whole history
  pub record Turned (log : List E) (views : List (View S E)) : Type 0 where
    pub taker : ℕ
    pub view : View S E
    pub there : get_elem? views taker ≡ some view
    pub acts : view.acts ≡ true
    pub others : (id : ℕ) (v : View S E) → get_elem? views id ≡ some v → v.acts ≡ true → (id ≡ taker)
        × (v.known.seen ≡ log)

  pub record Kept (number serial : E → ℕ) (stands : S → List E → S → Type 0) (opening : S)
      (s : State (Option S) (View S E)) : Type 0 where
    pub log : List E
    pub facts : Facts number serial (shown_world log s)
    pub two_words : length s.words ≡ 2
    pub each : (id : ℕ) (v : View S E) → get_elem? s.views id ≡ some v → Fits opening log v
    pub at_home : slice_index s.words 0 ≡ 0 → (x : S) × (get_elem? s.homes 0 ≡ some (some (Some x)))
        × stands opening log x
    pub at_rest : slice_index s.words 0 ≡ 0 → (id : ℕ) (v : View S E) → get_elem? s.views id ≡ some v → v.acts ≡ false
    pub taken : slice_index s.words 0 ≢ 0 → Turned log s.views

  -- the seat has the turn, and the value that stands for the whole history
  abbrev pub HasValue : (E → ℕ) → (E → ℕ) → (S → List E → S → Type 0) → Me (Option S) (View S E)
      → Me (Option S) (View S E) → Type 0
  HasValue number serial stands m n = (x : S) × (log : List E) × (n ≡ (acting m.0 log, (0, Some x) ∷ m.1))
      × StartsWith log m.0.known.seen × from stands m.0.opening log x × Owns number serial log m.0.known
      × IsCounted log m.0.known

  -- the turn was free and is taken, or was not free, and nothing changes
  abbrev pub took : (E → ℕ) → (E → ℕ) → (S → List E → S → Type 0) → Step (Option S) → Me (Option S) (View S E) → ℕ
      → Me (Option S) (View S E) → Type 0
  took number serial stands st m r n = (r ≡ 0 → HasValue number serial stands m n) × (r ≢ 0 → n ≡ m)

  abbrev pub gave : Option E → Step (Option S) → Me (Option S) (View S E) → ℕ → Me (Option S) (View S E) → Type 0
  gave given st m r n = n ≡ (given_back m.0 given, [])

  -- the number was the one asked for and is drawn, or was not, and nothing changes
  abbrev pub drew : Step (Option S) → Me (Option S) (View S E) → ℕ → Me (Option S) (View S E) → Type 0
  drew st m r n = (r ≡ st.first → n ≡ (numbered m.0 r, m.1)) × (r ≢ st.first → n ≡ m)

  -- what the seat has seen begins with each of the told lists that is no longer
  abbrev pub compared : Step (Option S) → Me (Option S) (View S E) → ℕ → Me (Option S) (View S E) → Type 0
  compared st m r n = (n ≡ m) × All (λ l. length l ≤ length m.0.known.seen → StartsWith m.0.known.seen l) m.0.told

  -- the seat has the turn and holds the slot of the value
  abbrev pub HoldsTurn : Me (Option S) (View S E) → Type 0
  HoldsTurn m = (m.0.acts ≡ true) × ((held : Option S) × (m.1 ≡ (0, held) ∷ []))

  -- the seat was made beside a pass, and has no number yet
  abbrev pub IsUnnumbered : View S E → Type 0
  IsUnnumbered v = (v.live ≡ false) × (v.acts ≡ false) × (is_some v.opening ≡ true)

module _ {E : Type 0} where
  -- the entry has the pass's number and the next serial
  abbrev pub IsNextOf : (E → ℕ) → (E → ℕ) → Known E → E → Type 0
  IsNextOf number serial p e = (number e ≡ p.number) × (serial e ≡ length p.mine)
