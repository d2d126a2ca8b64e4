use Rattle.std.proofs.Common.{◌≡◌, ℕ, false, get_or, length}
use Rattle.site_routes.proofs.targets.no_marks.Given as goal

abbrev pub invariant-loop-i : goal.invariant-loop-i
invariant-loop-i l = (length l.marks.items ≡ l.i) × ((j : ℕ) → get_or l.marks.items j false ≡ false)
