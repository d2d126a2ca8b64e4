use Rattle.std.proofs.Common.{◌≡◌, ℕ, ◌<◌, Some, map, slice_get}
use Rattle.link_router.specs.Calls.{Ent}
use Rattle.link_router.specs.View.{entry_view}
use Rattle.core_checker.specs.Twice.{SameCall}
use Rattle.core_checker.proofs.entries.is_twice.Given as goal

abbrev pub invariant-loop-i : goal.invariant-loop-i
invariant-loop-i l = (k : ℕ) (a b : Ent) → k < l.i → slice_get (map entry_view l.entries.items) k ≡ Some a → slice_get (map entry_view l.entries.items) l.j ≡ Some b → SameCall a b → ⊥
