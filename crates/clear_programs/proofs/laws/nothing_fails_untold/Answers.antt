use Rattle.clear_programs.proofs.NothingFails.{nothing_fails}
use Rattle.clear_programs.proofs.laws.nothing_fails_untold.Goals as goal

pub returns : goal.returns
returns c = nothing_fails
