use Rattle.std.proofs.Common.{rules, ◌≡◌, ◌<◌, length, arith, ap, Some, false}
use Rattle.std.specs.List.{prefix_len}
use Rattle.ur_lexer.specs.Bytes.{is_in_text}
use Rattle.ur_lexer.specs.Comments.{opens}
use Rattle.ur_lexer.specs.Entities.{entity}
use Rattle.ur_lexer.proofs.Readings.Cuts.{cut_text}
use Rattle.ur_lexer.proofs.Steps.RunSteps.{run_plain, run_bracket, run_entity}
use Rattle.ur_lexer.proofs.markup.run_piece.Goals as goal

pub returns-then-plain-gt0 : goal.returns-then-plain-gt0
returns-then-plain-gt0 c =
    let n : c.run_len-plain.result ≡ prefix_len is_in_text c.args.text.now = cc in
    (omega arith, cut_text c.args.text.now c.run_len-plain.result n, run_plain c.args.text.now c.run_len-plain.result n)

pub returns-then-bytes-eq40 : goal.returns-then-bytes-eq40
returns-then-bytes-eq40 c =
    let is = c.as_bytes-bytes.ensures.value in
    let closed_ : opens c.as_bytes-bytes.result.now ≡ false = search (rules, c.opens.ensures.value, c.if-opens.false) in
    let some : 0 < length c.as_bytes-bytes.result.now = search (rules, c.is_empty.ensures, c.if-is_empty.false) in
    run_bracket c.args.text.now c.utf8.text (omega (arith, some, ap length is)) (rw (← is) c.if-bytes-eq40.true) (rw (← is) closed_)

pub returns-in-Some : goal.returns-in-Some
returns-in-Some c =
    let is = c.as_bytes-bytes.ensures.value in
    let closed_ : opens c.as_bytes-bytes.result.now ≡ false = search (rules, c.opens.ensures.value, c.if-opens.false) in
    let some : 0 < length c.as_bytes-bytes.result.now = search (rules, c.is_empty.ensures, c.if-is_empty.false) in
    let found : entity c.as_bytes-bytes.result.now ≡ Some (c.in-Some.character, c.in-Some.len) = search (rules, c.in-Some.ensures.value) in
    run_entity c.args.text.now c.in-Some.character c.in-Some.len c.utf8.text (rw (← is) c.if-bytes-ne38.false) (omega (arith, some, ap length is)) (rw (← is) closed_) (rw (← is) found)
