use Rattle.std.proofs.Common.{refl}
use Rattle.type_makers.proofs.forms.two_field_row.Goals as goal

pub returns : goal.returns
returns c = c.two_field_row.ensures _ _ _ refl refl refl
