use Rattle.told_faults.proofs.Parts.{kind_is, picks_flaw}
use Rattle.told_faults.proofs.laws.a_kinding_tells_its_fault.Goals as goal

pub returns : goal.returns
returns c = λ G p x k. (kind_is G x k, picks_flaw G p x k _ (kind_is G x k))
