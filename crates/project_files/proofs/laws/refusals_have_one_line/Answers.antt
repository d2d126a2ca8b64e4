use Rattle.project_files.proofs.OneAnswer.{one_line}
use Rattle.project_files.proofs.laws.refusals_have_one_line.Goals as goal

pub returns : goal.returns
returns c = one_line
