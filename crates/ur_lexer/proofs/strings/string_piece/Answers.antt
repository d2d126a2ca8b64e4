use Rattle.std.proofs.Common.{◌≡◌, length, arith, ap}
use Rattle.std.specs.List.{prefix_len}
use Rattle.ur_lexer.specs.Bytes.{is_in_string}
use Rattle.ur_lexer.proofs.Readings.Cuts.{cut_string}
use Rattle.ur_lexer.proofs.Steps.StringSteps.{quoted_plain, quoted_escape}
use Rattle.ur_lexer.proofs.strings.string_piece.Goals as goal

pub returns-then-plain-gt0 : goal.returns-then-plain-gt0
returns-then-plain-gt0 c =
    let n : c.run_len-plain.result ≡ prefix_len is_in_string c.args.text.now = cc in
    (omega arith, cut_string c.args.text.now c.run_len-plain.result n, quoted_plain c.args.text.now c.run_len-plain.result n)

pub returns-in-Some : goal.returns-in-Some
returns-in-Some c =
    let n : c.run_len-plain.result ≡ prefix_len is_in_string c.args.text.now = cc in
    let none : c.run_len-plain.result ≡ 0 = omega arith in
    quoted_escape c.args.text.now c.in-Some.character c.utf8.text (cc) (rw (← c.as_bytes-bytes.ensures.value) c.if-bytes-eq34.false) (omega (arith, ap length c.as_bytes-bytes.ensures.value)) (rw (← c.as_bytes-bytes.ensures.value) (cc))
