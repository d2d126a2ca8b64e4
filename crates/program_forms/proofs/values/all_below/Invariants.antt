use Rattle.std.proofs.Common.{drop, ◌<◌}
use Rattle.std.specs.List.{AllByRecursion}
use Rattle.program_forms.proofs.values.all_below.Given as goal

abbrev pub invariant-loop-i : goal.invariant-loop-i
invariant-loop-i l = AllByRecursion (λ i. i < l.count) (drop l.i l.numbers) → AllByRecursion (λ i. i < l.count) l.numbers
