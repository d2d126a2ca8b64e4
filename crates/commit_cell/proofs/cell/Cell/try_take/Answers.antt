use Rattle.std.proofs.Common.{rules, Some, ap, ◌∙◌}
use Rattle.commit_cell.proofs.Moves.{took_list}
use Rattle.commit_cell.proofs.Turns.{counted_acting}
use Rattle.commit_cell.proofs.cell.Cell.try_take.Goals as goal

pub exchange-requires : goal.exchange-requires
exchange-requires g c =
    let t = c.ask.ensures.free c.if-ask-ne-FREE.false in
    (search rules, (Some t.0, took_list _ _ _ (ap (λ m. m.1) t.2)))

pub returns-clause-some : goal.returns-clause-some
returns-clause-some g c =
    let t = c.ask.ensures.free c.if-ask-ne-FREE.false in record {
      is_of = search rules;
      has_turn = search rules;
      is_turn = search rules;
      known_is = search rules;
      opening_is = search rules;
      begins = search rules;
      whole = search rules;
      counted = counted_acting c.args.pass.now.seat.me.0 c.exchange.new.seat.me.0 t.1 (ap (λ m. m.0) c.exchange.ensures.3 ∙ ap (λ m. m.0) t.2) t.6;
      stands_for = search rules;
    }
