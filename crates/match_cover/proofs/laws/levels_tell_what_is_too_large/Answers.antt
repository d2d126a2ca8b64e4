use Rattle.match_cover.proofs.Large.{levels_tell}
use Rattle.match_cover.proofs.laws.levels_tell_what_is_too_large.Goals as goal

pub returns : goal.returns
returns c = levels_tell
