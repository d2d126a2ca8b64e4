-- Worlds: one history and the passes that know beginnings of it, and the events that change a world.
use Rattle.std.specs.Prelude.{◌≡◌, ◌≢◌, ℕ, ◌+◌, ◌<◌, ◌≤◌, List, [], ◌∷◌, ◌++◌, length, map, flat_map, slice_set, All, Option, Some, None}
use mathlib.Core.Option.{some}
use lib.ListN.{get_elem?}
use Rattle.commit_cell.specs.declared.view.Known.{Known}
use Rattle.commit_cell.specs.History.{StartsWith, of_number, CountsFrom, longer, times}

-- The history, how many numbers were given out, and the passes by their places. A place is empty where its pass was
-- joined into another, or has no number yet.
pub record World (E : Type 0) : Type 0 where
  pub history : List E
  pub given : ℕ
  pub passes : List (Option (Known E))

-- A place without a pass is added; a new pass, which has seen so much, takes such a place; a pass takes in another,
-- looks at the whole history, or adds an entry to it. A pass is split by the first two: the new one has seen what it
-- has.
pub data Event (E : Type 0) : Type 0 where
  seats : Event E
  enters : ℕ → List E → Event E
  joins : ℕ → ℕ → Event E
  looks : ℕ → Event E
  commits : ℕ → E → Event E

module _ {E : Type 0} where
  abbrev pub HasPass : World E → ℕ → Known E → Type 0
  HasPass w i p = get_elem? w.passes i ≡ some (Some p)

  -- the place has no pass
  abbrev pub HasNoPass : World E → ℕ → Type 0
  HasNoPass w i = get_elem? w.passes i ≡ some None

  -- a new pass, which has seen this much and made nothing
  abbrev pub newcomer : ℕ → List E → Known E
  newcomer n seen = record { number = n; seen = seen; mine = []; gathered = [] }

  -- the pass once it has looked at this history
  abbrev pub looked : Known E → List E → Known E
  looked p log = record { number = p.number; seen = log; mine = p.mine; gathered = p.gathered }

  -- the pass once it has added an entry to this history
  abbrev pub committed : Known E → List E → E → Known E
  committed p log e = record { number = p.number; seen = log ++ e ∷ []; mine = p.mine ++ e ∷ []; gathered = p.gathered }

  -- the pass once it has taken in another, with all that the other had gathered
  abbrev pub joined : Known E → Known E → Known E
  joined p q = record {
    number = p.number;
    seen = longer p.seen q.seen;
    mine = p.mine;
    gathered = p.gathered ++ (q.number, q.mine) ∷ q.gathered;
  }

  -- the number of a pass, and those that it has gathered
  abbrev pub numbers_of : Option (Known E) → List ℕ
  numbers_of None = []
  numbers_of (Some p) = p.number ∷ map (λ (g : ℕ × List E). g.0) p.gathered

  -- the pass made no more entries than the history has, and gathered no number twice
  pub record IsCounted (log : List E) (p : Known E) : Type 0 where
    pub made : length p.mine ≤ length log
    pub once : (n : ℕ) → times n (map (λ (g : ℕ × List E). g.0) p.gathered) ≤ 1

  -- all numbers of live passes and all gathered numbers
  abbrev pub numbers : World E → List ℕ
  numbers w = flat_map numbers_of w.passes

  -- the world at the start: no entry, and one pass with number 0
  abbrev pub first_world : World E
  first_world = record { history = []; given = 1; passes = Some (newcomer 0 []) ∷ [] }

module _ {E : Type 0} (number serial : E → ℕ) where
  -- The history's entries with this pass's number are its own, and those with a gathered number the list gathered
  -- with it. The serials of each are 0, 1, and so on
  pub record Owns (log : List E) (p : Known E) : Type 0 where
    pub own : of_number number p.number log ≡ p.mine
    pub serials : CountsFrom serial 0 p.mine
    pub gathered : All (λ (g : ℕ × List E). (of_number number g.0 log ≡ g.1) × CountsFrom serial 0 g.1) p.gathered

  -- the event leads from the one world to the other
  abbrev pub Happens : World E → Event E → World E → Type 0
  Happens w seats w' = w' ≡ record { history = w.history; given = w.given; passes = w.passes ++ None ∷ [] }
  Happens w (enters i seen) w' = StartsWith w.history seen × HasNoPass w i
      × (w' ≡ record {
        history = w.history;
        given = w.given + 1;
        passes = slice_set w.passes i (Some (newcomer w.given seen));
      })
  Happens w (joins i j) w' = (p : Known E) × (q : Known E) × HasPass w i p × HasPass w j q × (j ≢ i)
      × (w' ≡ record {
        history = w.history;
        given = w.given;
        passes = slice_set (slice_set w.passes i (Some (joined p q))) j None;
      })
  Happens w (looks i) w' = (p : Known E) × HasPass w i p
      × (w' ≡ record {
        history = w.history;
        given = w.given;
        passes = slice_set w.passes i (Some (looked p w.history));
      })
  Happens w (commits i e) w' = (p : Known E) × HasPass w i p × (number e ≡ p.number) × (serial e ≡ length p.mine)
      × (w' ≡ record {
        history = w.history ++ e ∷ [];
        given = w.given;
        passes = slice_set w.passes i (Some (committed p w.history e));
      })

  -- the events lead from the one world to the other, one after another
  abbrev pub Runs : World E → List (Event E) → World E → Type 0
  Runs w [] w' = w ≡ w'
  Runs w (e ∷ es) w' = (m : World E) × Happens w e m × Runs m es w'

  -- what holds of each pass of a world with this history, which has given out so many numbers
  pub record Knows (history : List E) (given : ℕ) (p : Known E) : Type 0 where
    pub seen : StartsWith history p.seen
    pub own_seen : of_number number p.number p.seen ≡ p.mine
    pub owns : Owns history p
    pub was_given : p.number < given
    pub were_given : All (λ (g : ℕ × List E). g.0 < given) p.gathered

  -- The facts of a world: those of its passes, that no number stands twice, and that a number which was not given yet
  -- has no entry
  pub record Facts (w : World E) : Type 0 where
    pub each : (i : ℕ) (p : Known E) → HasPass w i p → Knows w.history w.given p
    pub differ : (n : ℕ) → times n (numbers w) ≤ 1
    pub unused : (n : ℕ) → w.given ≤ n → of_number number n w.history ≡ []

  -- every list of events leaves a world with its facts
  abbrev pub EveryWorldKeepsItsFacts : Type 0
  EveryWorldKeepsItsFacts = (events : List (Event E)) (w : World E) → Runs first_world events w → Facts w
