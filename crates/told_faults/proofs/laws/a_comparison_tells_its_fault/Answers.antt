use Rattle.told_faults.proofs.Parts.{wanted, picks_wants}
use Rattle.told_faults.proofs.laws.a_comparison_tells_its_fault.Goals as goal

pub returns : goal.returns
returns c = λ G p t u. (wanted G p t u, picks_wants G p t u)
