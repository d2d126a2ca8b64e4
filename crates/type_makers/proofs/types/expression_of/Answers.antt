use Rattle.std.proofs.Common.{refl}
use Rattle.type_makers.proofs.types.expression_of.Goals as goal

pub returns : goal.returns
returns c = c.applied.ensures _ _ (c.basic_at-over.ensures _ refl) refl
