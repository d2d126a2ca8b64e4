use Rattle.std.proofs.Common.{rules}
use mathlib.Core.Option.{none}
use Rattle.atomic_table.specs.Table.{step}
use Rattle.commit_cell.proofs.Moves.{merges, compares}
use Rattle.commit_cell.proofs.cell.Cell.join.Goals as goal

pub join_seat-requires : goal.join_seat-requires
join_seat-requires g c =
    let t = g.S.Replays in
    let r = c.requires in
    (search rules, search rules, search rules, search rules, merges t.number t.serial t.stands _ _ _ _ _ c.args.pass.now.numbered.1 r.pass.1.0 c.args.other.numbered.1 r.other.1.0)

pub load-requires : goal.load-requires
load-requires g c = let t = g.S.Replays in (search rules, search rules, compares t.number t.serial t.stands _ _ _ _ (step 1 0 0 0 none))
