-- Modules of which one has an unbound name, and one is a program's source, worked out.
use Rattle.std.proofs.Common.{refl}
use Rattle.bound_sources.specs.Examples.{ExamplesAreWorked}

pub worked : ExamplesAreWorked
worked = (refl, refl)
