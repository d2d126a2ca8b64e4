use Rattle.project_files.proofs.OneAnswer.{one_answer}
use Rattle.project_files.proofs.laws.projects_have_one_answer.Goals as goal

pub returns : goal.returns
returns c = one_answer
