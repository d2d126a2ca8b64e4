use Rattle.std.proofs.Common.{refl}
use Rattle.type_makers.proofs.forms.record.Goals as goal

pub returns : goal.returns
returns c = c.record.ensures _ refl
