use Rattle.std.proofs.Common.{refl}
use Rattle.type_makers.proofs.forms.poly.Goals as goal

pub returns : goal.returns
returns c = c.poly.ensures _ _ refl refl
