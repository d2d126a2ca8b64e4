use Rattle.std.proofs.Common.{refl}
use Rattle.type_makers.proofs.types.for_type.Goals as goal

pub returns : goal.returns
returns c = c.each_type.ensures _ refl
