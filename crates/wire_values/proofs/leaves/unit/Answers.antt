use Rattle.std.proofs.Common.{refl}
use Rattle.wire_values.proofs.Forms.{unit_has}
use Rattle.wire_values.proofs.leaves.unit.Goals as goal

pub returns-in-Unit : goal.returns-in-Unit
returns-in-Unit c K = unit_has c.args.wire.now _ c.in-Unit.is refl
