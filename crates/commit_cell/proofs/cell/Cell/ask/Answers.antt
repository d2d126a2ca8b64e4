use Rattle.std.proofs.Common.{rules, ◌==◌, arith}
use mathlib.Core.Option.{none}
use prog.Atomic.{either}
use Rattle.atomic_table.specs.Table.{step}
use Rattle.commit_cell.proofs.Moves.{takes_turn, exchanged}
use Rattle.commit_cell.proofs.cell.Cell.ask.Goals as goal

pub compare_exchange-requires : goal.compare_exchange-requires
compare_exchange-requires g c =
    let t = g.S.Replays in
    let p = c.requires.pass in
    (search rules, search rules, takes_turn t.number t.serial t.stands _ _ _ _ (step 1 0 0 1 none) (λ n. either (n == 0) 1 n) (λ e. omega arith) exchanged p.0 p.1)

pub swap-requires : goal.swap-requires
swap-requires g c =
    let t = g.S.Replays in
    let p = c.requires.pass in
    (search rules, search rules, takes_turn t.number t.serial t.stands _ _ _ _ (step 1 0 2 0 none) (λ _. 2) (λ e. omega arith) (λ n _ e. omega arith) p.0 p.1)
