use Rattle.std.proofs.Common.{◌≡◌, ◌-◌, map, drop, Some}
use Rattle.run_values.specs.View.{slots_tree}
use Rattle.page_walk.specs.Adding.{label, sorted}
use Rattle.page_walk.proofs.links.in_order.Given as goal

abbrev pub invariant-loop-i : goal.invariant-loop-i
invariant-loop-i l = sorted l.program.names (slots_tree (drop (l.count - l.i) l.slots)) ≡ Some (map label l.fields.items)
