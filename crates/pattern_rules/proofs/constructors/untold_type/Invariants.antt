use Rattle.std.proofs.Common.{◌≡◌}
use Rattle.con_terms.specs.Trees.{basic}
use Rattle.con_terms.specs.View.{con_tree}
use Rattle.core_terms.specs.Types.{at_types}
use Rattle.core_typing.specs.PatternFaults.{untold}
use Rattle.pattern_rules.proofs.constructors.untold_type.Given as goal

abbrev pub invariant-loop : goal.invariant-loop
invariant-loop l = con_tree l.built ≡ at_types (basic l.fn.d.number) (untold l.counter)
