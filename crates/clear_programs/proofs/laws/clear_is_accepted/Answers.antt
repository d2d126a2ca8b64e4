use Rattle.clear_programs.proofs.Accepted.{clear_accepted}
use Rattle.clear_programs.proofs.laws.clear_is_accepted.Goals as goal

pub returns : goal.returns
returns c = clear_accepted
