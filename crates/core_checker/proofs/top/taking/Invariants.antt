use Rattle.std.proofs.Common.{◌≡◌, ◌≤◌, ◌-◌}
use Rattle.con_terms.specs.View.{kind_tree}
use Rattle.core_terms.specs.Types.{type_taking}
use Rattle.core_checker.proofs.top.taking.Given as goal

abbrev pub invariant-loop-made : goal.invariant-loop-made
invariant-loop-made l = (kind_tree l.kind ≡ type_taking l.made) × (l.made ≤ l.count)

abbrev pub decreases-loop-made : goal.decreases-loop-made
decreases-loop-made l = l.count - l.made
