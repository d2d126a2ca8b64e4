use Rattle.std.proofs.Common.{refl}
use Rattle.type_makers.proofs.forms.empty_row.Goals as goal

pub returns : goal.returns
returns c = c.empty_row.ensures _ refl
