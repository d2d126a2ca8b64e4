use Rattle.std.proofs.Common.{refl}
use Rattle.kind_rules.specs.Compared.{comparison_units}
use Rattle.kind_rules.proofs.compare.comparison_fuel.Goals as goal

pub returns-clause-units : goal.returns-clause-units
unfolding comparison_units
returns-clause-units c = refl
