-- What each kind of step of the cell's table does to the world that the table shows: it moves it by an event, or
-- leaves it.
use Rattle.std.specs.Prelude.{◌≡◌, ◌≢◌, ℕ, ◌+◌, true, false, List, [], ◌∷◌, ◌++◌, length, slice_index, slice_set, Option, Some, None}
use mathlib.Core.Option.{Option as Home, some}
use lib.ListN.{get_elem?}
use Rattle.atomic_table.specs.Table.{State}
use Rattle.commit_cell.specs.declared.view.View.{View}
use Rattle.commit_cell.specs.History.{StartsWith}
use Rattle.commit_cell.specs.World.{World, Happens, seats, enters, joins, looks, commits}
use Rattle.commit_cell.specs.Rule.{acting, given_back, unnumbered, numbered, both, spent, shown_world, IsNextOf}

module _ {S E : Type 0} where
  -- the seat has the view
  abbrev pub IsSeat : State (Option S) (View S E) → ℕ → View S E → Type 0
  IsSeat s id v = get_elem? s.views id ≡ some v

  -- the table once a step of a seat has left this in a word, these slots and this view
  abbrev pub left_by : State (Option S) (View S E) → ℕ → ℕ → List (Home (Option S)) → ℕ → View S E
      → State (Option S) (View S E)
  left_by s i n homes id v = record { words = slice_set s.words i n; homes = homes; views = slice_set s.views id v }

module _ (S E : Type 0) (number serial : E → ℕ) where
  abbrev T : Type 0
  T = State (Option S) (View S E)

  abbrev Homes : Type 0
  Homes = List (Home (Option S))

  -- taking the turn, whatever its word becomes: the pass looks at the whole history
  abbrev pub TakingLooks : Type 0
  TakingLooks = (log : List E) (s : T) (n id : ℕ) (homes : Homes) (v : View S E)
      → IsSeat s id v
      → v.live ≡ true
      → Happens number serial (shown_world log s) (looks id) (shown_world log (left_by s 0 n homes id (acting v log)))

  -- giving the turn back with an entry: the pass, which has seen the whole history, commits it
  abbrev pub GivingCommits : Type 0
  GivingCommits = (log : List E) (s : T) (n id : ℕ) (homes : Homes) (v : View S E) (e : E)
      → IsSeat s id v
      → v.live ≡ true
      → v.known.seen ≡ log
      → IsNextOf number serial v.known e
      → Happens number serial (shown_world log s) (commits id e)
      (shown_world (log ++ e ∷ []) (left_by s 0 n homes id (given_back v (Some e))))

  -- giving it back without one
  abbrev pub GivingLeaves : Type 0
  GivingLeaves = (log : List E) (s : T) (n id : ℕ) (homes : Homes) (v : View S E)
      → IsSeat s id v
      → shown_world log (left_by s 0 n homes id (given_back v None)) ≡ shown_world log s

  -- marking the turn, and comparing what two passes had seen: the turn's word may change, the view doesn't
  abbrev pub MarkingLeaves : Type 0
  MarkingLeaves = (log : List E) (s : T) (n id : ℕ) (homes : Homes) (v : View S E)
      → IsSeat s id v
      → shown_world log (left_by s 0 n homes id v) ≡ shown_world log s

  -- cutting a seat off: a place without a pass is added
  abbrev pub CuttingSeats : Type 0
  CuttingSeats = (log : List E) (s : T) (id : ℕ) (v : View S E)
      → IsSeat s id v
      → Happens number serial (shown_world log s) seats
      (shown_world log record {
        words = s.words;
        homes = s.homes;
        views = slice_set s.views id v ++ unnumbered v ∷ [];
      })

  -- drawing a number: a new pass enters at that place
  abbrev pub DrawingEnters : Type 0
  DrawingEnters = (log : List E) (s : T) (id : ℕ) (homes : Homes) (v : View S E)
      → length s.words ≡ 2
      → IsSeat s id v
      → v.live ≡ false
      → StartsWith log v.known.seen
      → Happens number serial (shown_world log s) (enters id v.known.seen)
      (shown_world log (left_by s 1 (slice_index s.words 1 + 1) homes id (numbered v (slice_index s.words 1))))

  -- joining: a pass takes in another
  abbrev pub JoiningJoins : Type 0
  JoiningJoins = (log : List E) (s : T) (id other : ℕ) (v w : View S E)
      → IsSeat s id v
      → v.live ≡ true
      → IsSeat s other w
      → w.live ≡ true
      → other ≢ id
      → Happens number serial (shown_world log s) (joins id other)
      (shown_world log record {
        words = s.words;
        homes = s.homes;
        views = slice_set
            (slice_set s.views id (both v w)) other spent;
      })
