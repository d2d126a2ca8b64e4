use Rattle.std.proofs.Common.{refl}
use Rattle.type_makers.proofs.forms.row_kind.Goals as goal

pub returns : goal.returns
returns c = c.row_kind.ensures _ refl
