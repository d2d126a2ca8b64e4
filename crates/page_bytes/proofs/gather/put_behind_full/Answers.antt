use Rattle.std.proofs.Common.{ap}
use Rattle.page_bytes.proofs.Putting.{puts_then, puts_cut, puts_sent}
use Rattle.page_bytes.proofs.gather.put_behind_full.Goals as goal

pub returns-in_err-flush : goal.returns-in_err-flush
returns-in_err-flush g c = puts_cut _ _ _ _ _ _ _ _ _ _ c.from_residual.ensures.0 c.in_err-flush.ensures.puts

pub returns-in-Err : goal.returns-in-Err
returns-in-Err g c =
    puts_then _ _ _ _ _ _ _ _ _ _ _ _ _ c.in_ok-flush.ensures.puts
    (puts_sent _ _ _ _ _ _ _ _ c.in_ok-flush.ensures.empty (ap (λ v. v.items) c.in-Err.ensures.err) c.send.ensures)
