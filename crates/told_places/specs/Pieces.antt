-- The piece of a line that is shown.
use Rattle.std.specs.Prelude.{ℕ, ◌+◌, ◌≤◌, List, IsCharBoundary}
use Rattle.told_places.specs.Places.{line_start, line_end}

-- the most bytes of a line that are shown on each side of a place
abbrev pub near : ℕ
near = 60

-- The piece has the place in it and lies in the place's line, it begins and ends between characters, and it has all of
-- the line but what is too far from the place.
pub record IsPiece (text : List ℕ) (at from to : ℕ) : Type 0 where
  pub in_line : line_start text at ≤ from
  pub before : from ≤ at
  pub begins : IsCharBoundary text from
  pub begins_near : at ≤ from + near
  pub begins_first : (other : ℕ) → line_start text at ≤ other → at ≤ other + near → IsCharBoundary text other
      → from ≤ other
  pub behind : at ≤ to
  pub to_end : to ≤ line_end text at
  pub ends : IsCharBoundary text to
  pub ends_near : to ≤ at + near
  pub ends_last : (other : ℕ) → other ≤ line_end text at → other ≤ at + near → IsCharBoundary text other → other ≤ to
