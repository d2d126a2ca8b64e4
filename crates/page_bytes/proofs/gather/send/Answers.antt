use Rattle.page_bytes.proofs.Putting.{puts_stopped}
use Rattle.page_bytes.proofs.gather.send.Goals as goal

pub returns-in-Err : goal.returns-in-Err
returns-in-Err g c = puts_stopped _ _ _ _ _ _ c.in-Err.ensures.front c.in-Err.ensures.later c.in-Err.ensures.failed
