use Rattle.std.proofs.Common.{refl}
use Rattle.type_makers.proofs.forms.arrow.Goals as goal

pub returns : goal.returns
returns c = c.arrow.ensures _ _ refl refl
