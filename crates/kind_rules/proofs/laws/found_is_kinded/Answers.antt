use Rattle.kind_rules.proofs.Sound.{kinding_sound}
use Rattle.kind_rules.proofs.laws.found_is_kinded.Goals as goal

pub returns : goal.returns
returns c = kinding_sound
