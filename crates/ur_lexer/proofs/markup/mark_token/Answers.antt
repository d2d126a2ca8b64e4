use Rattle.std.proofs.Common.{rules, ◌≡◌, get_or, arith, ap, length}
use Rattle.ur_lexer.proofs.Readings.Cuts.{cut_behind}
use Rattle.ur_lexer.proofs.markup.mark_token.Goals as goal

pub after-requires : goal.after-requires
after-requires c =
    let second : get_or c.args.text.now 1 0 ≡ 47 = search (rules, c.if-second-eq47.true, c.as_bytes-bytes.ensures.value) in
    cut_behind c.args.text.now 2 c.utf8.text (omega arith) (omega (arith, ap length c.as_bytes-bytes.ensures.value)) (omega (arith, second))
