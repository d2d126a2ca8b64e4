use Rattle.std.proofs.Common.{map}
use Rattle.core_terms.specs.View.{datatype_view}
use Rattle.carried_types.specs.Carriers.{NoneElse}
use Rattle.carried_types.specs.View.{carriers_view}
use Rattle.carried_types.proofs.carried.carriers_of.Given as goal

abbrev pub invariant-loop : goal.invariant-loop
invariant-loop l = NoneElse (map datatype_view l.datatypes.items) (carriers_view l.now)
