use Rattle.std.proofs.Common.{rules}
use Rattle.commit_cell.proofs.Turns.{counted_before}
use Rattle.commit_cell.proofs.cell.Cell.close.Goals as goal

pub returns : goal.returns
returns g c =
    let t = c.take-value.ensures in record {
      log = c.take-value.new.pass.seat.me.0.known.seen;
      begins = t.begins;
      stands_for = search rules;
      owns = search rules;
      counted = counted_before _ _ _ t.known_is t.counted;
    }
