use Rattle.shaped_values.proofs.Cases.{cover_takes}
use Rattle.shaped_values.proofs.laws.covering_cases_take_a_branch.Goals as goal

pub returns : goal.returns
returns c = cover_takes
