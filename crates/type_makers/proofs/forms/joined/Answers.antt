use Rattle.std.proofs.Common.{refl}
use Rattle.type_makers.proofs.forms.joined.Goals as goal

pub returns : goal.returns
returns c = c.joined.ensures _ _ refl refl
