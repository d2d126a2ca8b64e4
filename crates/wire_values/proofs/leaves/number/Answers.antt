use Rattle.std.proofs.Common.{rules}
use Rattle.wire_values.proofs.Forms.{int_has}
use Rattle.wire_values.proofs.leaves.number.Goals as goal

pub returns-in-Int : goal.returns-in-Int
returns-in-Int c K = int_has c.args.wire.now c.in-Int.number _ c.in-Int.is (search rules)
