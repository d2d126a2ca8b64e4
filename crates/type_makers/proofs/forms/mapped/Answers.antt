use Rattle.std.proofs.Common.{refl}
use Rattle.type_makers.proofs.forms.mapped.Goals as goal

pub returns : goal.returns
returns c = c.applied.ensures _ _ (c.applied-at_function.ensures _ _ (c.map_of-map.ensures _ _ refl refl) refl) refl
