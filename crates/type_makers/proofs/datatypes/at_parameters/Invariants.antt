use Rattle.std.proofs.Common.{◌≡◌}
use Rattle.con_terms.specs.Trees.{basic}
use Rattle.con_terms.specs.View.{con_tree}
use Rattle.core_terms.specs.Types.{at_types}
use Rattle.core_terms.specs.Datatypes.{parameters_of}
use Rattle.type_makers.proofs.datatypes.at_parameters.Given as goal

abbrev pub invariant-loop-left : goal.invariant-loop-left
invariant-loop-left l = at_types (con_tree l.built) (parameters_of l.left) ≡ at_types (basic l.fn.symbol.number) (parameters_of l.fn.count)

abbrev pub decreases-loop-left : goal.decreases-loop-left
decreases-loop-left l = l.left
