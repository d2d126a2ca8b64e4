-- The plain data that the values of this crate are.
use Rattle.std.specs.Prelude.{◌≡◌, true, false, None, Some, Option}
use Rattle.con_terms.specs.Trees.{Cn}
use Rattle.con_terms.specs.View.{con_tree}
use Rattle.con_terms.specs.declared.con.Con.{Con}
use Rattle.unknowns.specs.Slots.{slots_tree}
use Rattle.unknowns.specs.Unknowns.{Fd, known, told}
use Rattle.unknowns.specs.declared.store.Found.{Found}

abbrev pub found_tree : Found → Fd
found_tree f = slots_tree f.slots

-- the constructor seen from outside of the unknowns, or none exactly where an unknown is left in it
abbrev pub IsTold : Fd → Cn → Option Con → Type 0
IsTold f c None = known f c 0 ≡ false
IsTold f c (Some d) = (known f c 0 ≡ true) × (con_tree d ≡ told f c)
