use Rattle.std.proofs.Common.{ℕ, ◌≤◌, ◌<◌, ◌-◌, IsCharBoundary}
use Rattle.told_places.proofs.piece.boundary_up_to.Given as goal

abbrev pub invariant-loop-to : goal.invariant-loop-to
invariant-loop-to l =
    (l.at ≤ l.to) × (l.to ≤ l.most) × ((other : ℕ) → l.to < other → other ≤ l.most → ¬ (IsCharBoundary l.text other))

abbrev pub decreases-loop-to : goal.decreases-loop-to
decreases-loop-to l = l.to - l.at
