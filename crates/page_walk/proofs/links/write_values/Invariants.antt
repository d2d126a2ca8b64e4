use Rattle.std.proofs.Common.{◌≡◌, ◌-◌, [], map, drop}
use Rattle.run_values.specs.View.{value_tree}
use Rattle.page_walk.specs.Adding.{Amid, pending}
use Rattle.page_walk.proofs.links.write_values.Given as goal

abbrev pub invariant-loop-i : goal.invariant-loop-i
invariant-loop-i l = pending l.todo.items [] ≡ map value_tree (drop (l.count - l.i) l.values)

abbrev pub invariant-loop : goal.invariant-loop
invariant-loop l = Amid l.program l.initial.link l.link (pending l.initial.todo.items []) (pending l.todo.items [])
