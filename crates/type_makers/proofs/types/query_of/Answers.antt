use Rattle.std.proofs.Common.{refl}
use Rattle.type_makers.proofs.types.query_of.Goals as goal

pub returns : goal.returns
returns c = c.query.ensures _ _ refl refl
