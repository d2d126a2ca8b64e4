use Rattle.std.proofs.Common.{refl}
use Rattle.type_makers.proofs.forms.guarded.Goals as goal

pub returns : goal.returns
returns c = c.guarded.ensures _ _ _ refl refl refl
