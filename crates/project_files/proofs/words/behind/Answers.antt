use Rattle.project_files.proofs.Fronts.{stripped}
use Rattle.project_files.proofs.words.behind.Goals as goal

pub returns : goal.returns
returns c = stripped c.args.front.now c.args.line.now c.strip_prefix.result c.strip_prefix.ensures.cases
