use Rattle.commit_cell.proofs.Worlds.{every_world_keeps_its_facts}
use Rattle.commit_cell.proofs.laws.worlds_keep_their_facts.Goals as goal

pub returns : goal.returns
returns g c = every_world_keeps_its_facts g.S.Replays.number g.S.Replays.serial
