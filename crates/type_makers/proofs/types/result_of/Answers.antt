use Rattle.std.proofs.Common.{refl}
use Rattle.type_makers.proofs.types.result_of.Goals as goal

pub returns : goal.returns
returns c = c.query_row.ensures _ _ refl refl
