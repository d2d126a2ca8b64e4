use Rattle.std.proofs.Common.{◌≡◌, ◌-◌, ◌++◌, [], map, drop}
use Rattle.run_values.specs.View.{value_tree}
use Rattle.page_walk.specs.Adding.{pending}
use Rattle.page_walk.proofs.links.write_fields.Given as goal

abbrev pub invariant-loop-i : goal.invariant-loop-i
invariant-loop-i l = pending l.todo.items [] ≡ map (λ f. value_tree f.value) (drop (l.count - l.i) l.fields.items) ++ pending l.initial.todo.items []
