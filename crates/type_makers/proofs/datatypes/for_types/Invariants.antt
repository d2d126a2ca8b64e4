use Rattle.std.proofs.Common.{◌≡◌}
use Rattle.con_terms.specs.View.{con_tree}
use Rattle.core_terms.specs.Types.{for_types}
use Rattle.type_makers.proofs.datatypes.for_types.Given as goal

abbrev pub invariant-loop-left : goal.invariant-loop-left
invariant-loop-left l = for_types l.left (con_tree l.built) ≡ for_types l.fn.count (con_tree l.fn.body)

abbrev pub decreases-loop-left : goal.decreases-loop-left
decreases-loop-left l = l.left
