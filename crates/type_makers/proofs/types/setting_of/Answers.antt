use Rattle.std.proofs.Common.{refl}
use Rattle.type_makers.proofs.types.setting_of.Goals as goal

pub returns : goal.returns
returns c = c.setting.ensures _ refl
