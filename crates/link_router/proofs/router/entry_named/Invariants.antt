use Rattle.std.proofs.Common.{ℕ, ◌<◌, List}
use Rattle.link_router.specs.Calls.{Ent}
use Rattle.link_router.specs.View.{routes_view}
use Rattle.link_router.specs.Answered.{FoundEntry}
use Rattle.link_router.proofs.router.entry_named.Given as goal

abbrev pub invariant-loop-i : goal.invariant-loop-i
invariant-loop-i l = (k : ℕ) → k < l.i → (e : Ent) (rest : List (List ℕ)) → FoundEntry (routes_view l.routes) l.post l.pieces k e rest → ⊥
