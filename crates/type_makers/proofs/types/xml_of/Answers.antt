use Rattle.std.proofs.Common.{refl}
use Rattle.type_makers.proofs.types.xml_of.Goals as goal

pub returns : goal.returns
returns c = c.xml.ensures _ _ _ refl refl refl
