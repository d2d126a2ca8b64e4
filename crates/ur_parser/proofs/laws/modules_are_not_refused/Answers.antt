use Rattle.ur_parser.specs.Sources.{module_part}
use Rattle.ur_parser.proofs.laws.modules_are_not_refused.Goals as goal

pub returns : goal.returns
returns c ts fault (n, whole, is) h = c.trees_are_not_refused.ensures module_part ts fault n h whole is
