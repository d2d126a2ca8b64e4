use Rattle.std.proofs.Common.{rules, refl}
use mathlib.Core.Option.{none}
use Rattle.atomic_table.specs.Table.{step}
use Rattle.commit_cell.proofs.Moves.{gives_turn, rest_empty}
use Rattle.commit_cell.proofs.cell.Cell.give.Goals as goal

pub swap-requires : goal.swap-requires
swap-requires g c =
    let t = g.S.Replays in
    let r = c.requires in
    (search rules, search rules, gives_turn t.number t.serial t.stands _ _ _ _ _ _ _ _ (step 1 0 0 0 none) c.args.self.now.sized.1 c.exchange.ensures.3 (rest_empty _ _ _ r.turn.1.1 refl) r.turn.0 r.pass.0 r.pass.1 r.stands r.entry)
