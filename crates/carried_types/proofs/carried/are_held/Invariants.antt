use Rattle.std.proofs.Common.{◌≡◌, map, drop}
use Rattle.core_terms.specs.View.{constructor_view, datatype_view}
use Rattle.carried_types.specs.Built.{built, holds_by, nested}
use Rattle.carried_types.specs.View.{carriers_view}
use Rattle.carried_types.proofs.carried.are_held.Given as goal

abbrev pub invariant-loop-j : goal.invariant-loop-j
invariant-loop-j l =
    holds_by (built nested (map datatype_view l.datatypes.items) (carriers_view l.carriers) l.parameters) (map constructor_view l.constructors.items.items)
    ≡ holds_by (built nested (map datatype_view l.datatypes.items) (carriers_view l.carriers) l.parameters) (map constructor_view (drop l.j l.constructors.items.items))
