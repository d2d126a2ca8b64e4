use Rattle.std.proofs.Common.{rules}
use Rattle.commit_cell.proofs.Moves.{cuts}
use Rattle.commit_cell.proofs.cell.Cell.split.Goals as goal

pub split_seat-seat-requires : goal.split_seat-seat-requires
split_seat-seat-requires g c = let t = g.S.Replays in (search rules, search rules, cuts t.number t.serial t.stands _ _ _)
