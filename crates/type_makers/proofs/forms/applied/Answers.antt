use Rattle.std.proofs.Common.{refl}
use Rattle.type_makers.proofs.forms.applied.Goals as goal

pub returns : goal.returns
returns c = c.applied.ensures _ _ refl refl
