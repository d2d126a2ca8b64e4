use Rattle.std.proofs.Common.{ℕ, ◌≤◌, ◌<◌, ◌-◌, IsCharBoundary}
use Rattle.told_places.proofs.piece.boundary_from.Given as goal

abbrev pub invariant-loop-from : goal.invariant-loop-from
invariant-loop-from l =
    (l.least ≤ l.from) × (l.from ≤ l.at) × ((other : ℕ) → l.least ≤ other → other < l.from → ¬ (IsCharBoundary l.text other))

abbrev pub decreases-loop-from : goal.decreases-loop-from
decreases-loop-from l = l.at - l.from
