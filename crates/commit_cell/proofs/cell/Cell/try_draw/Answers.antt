use Rattle.std.proofs.Common.{rules, refl, ◌+◌}
use mathlib.Core.Option.{none}
use Rattle.atomic_table.specs.Table.{step}
use Rattle.commit_cell.proofs.Moves.{draws}
use Rattle.commit_cell.proofs.cell.Cell.try_draw.Goals as goal

pub compare_exchange-found-requires : goal.compare_exchange-found-requires
compare_exchange-found-requires g c =
    let t = g.S.Replays in
    (search rules, search rules, draws t.number t.serial t.stands _ _ _ _ _ (step 1 1 c.from-number.result (c.from-number.result + 1) none) refl c.requires.unnumbered)
