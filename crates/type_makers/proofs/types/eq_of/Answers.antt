use Rattle.std.proofs.Common.{refl}
use Rattle.type_makers.proofs.types.eq_of.Goals as goal

pub returns : goal.returns
returns c = c.basic_at.ensures _ refl
