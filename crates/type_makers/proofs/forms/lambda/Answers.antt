use Rattle.std.proofs.Common.{refl}
use Rattle.type_makers.proofs.forms.lambda.Goals as goal

pub returns : goal.returns
returns c = c.lambda.ensures _ _ refl refl
