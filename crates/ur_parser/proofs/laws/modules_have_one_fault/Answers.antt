use Rattle.ur_parser.specs.Sources.{module_part}
use Rattle.ur_parser.proofs.laws.modules_have_one_fault.Goals as goal

pub returns : goal.returns
returns c ts fault other h k = c.one_refusal.ensures module_part ts fault other h k
