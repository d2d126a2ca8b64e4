use Rattle.std.proofs.Common.{◌≡◌, ◌-◌, map}
use Rattle.con_terms.specs.View.{con_tree}
use Rattle.core_terms.specs.View.{datatype_view}
use Rattle.carried_types.specs.Pages.{left_behind}
use Rattle.carried_types.specs.View.{carriers_view}
use Rattle.carried_types.proofs.pages.carried_behind.Given as goal

abbrev pub invariant-loop-i : goal.invariant-loop-i
invariant-loop-i l =
    left_behind (map datatype_view l.datatypes.items) (carriers_view l.carriers) (l.count - l.i) (con_tree l.now)
    ≡ left_behind (map datatype_view l.datatypes.items) (carriers_view l.carriers) l.count (con_tree l.t)
