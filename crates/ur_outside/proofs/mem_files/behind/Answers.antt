use Rattle.ur_outside.proofs.Fronts.{stripped}
use Rattle.ur_outside.proofs.mem_files.behind.Goals as goal

pub returns : goal.returns
returns c = stripped c.args.front.now c.args.path.now c.strip_prefix.result c.strip_prefix.ensures.cases
