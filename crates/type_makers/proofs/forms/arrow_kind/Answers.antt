use Rattle.std.proofs.Common.{refl}
use Rattle.type_makers.proofs.forms.arrow_kind.Goals as goal

pub returns : goal.returns
returns c = c.arrow_kind.ensures _ _ refl refl
