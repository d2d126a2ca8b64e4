use Rattle.std.proofs.Common.{◌≡◌, drop, map}
use Rattle.con_terms.specs.View.{con_tree}
use Rattle.inserted_terms.specs.Searches.{first_basis}
use Rattle.inserted_terms.specs.Values.{name_of}
use Rattle.inserted_terms.proofs.instances.first_basis.Given as goal

abbrev pub invariant-loop-i : goal.invariant-loop-i
invariant-loop-i l =
    first_basis (con_tree l.n) (map name_of l.h.basis.now) ≡ first_basis (con_tree l.n) (map name_of (drop l.i l.h.basis.now))
