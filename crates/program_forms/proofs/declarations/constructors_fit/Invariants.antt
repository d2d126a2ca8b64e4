use Rattle.std.proofs.Common.{map, drop}
use Rattle.std.specs.List.{AllByRecursion}
use Rattle.core_terms.specs.Leaves.{ConstructorFits}
use Rattle.core_terms.specs.Lists.{constructors_view}
use Rattle.core_terms.specs.View.{constructor_view}
use Rattle.program_forms.proofs.declarations.constructors_fit.Given as goal

abbrev pub invariant-loop-i : goal.invariant-loop-i
invariant-loop-i l =
    AllByRecursion (ConstructorFits l.count) (map constructor_view (drop l.i l.cs.items.items)) → AllByRecursion (ConstructorFits l.count) (constructors_view l.cs)
