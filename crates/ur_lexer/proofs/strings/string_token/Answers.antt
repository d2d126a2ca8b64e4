use Rattle.std.proofs.Common.{◌≡◌, ◌<◌, ◌≤◌, ◌-◌, ◌++◌, ℕ, List, length, take, drop, arith, ap, ◌∙◌, length-drop}
use Rattle.std.specs.Char.{encode_utf8}
use Rattle.ur_lexer.specs.Strings.{quoted}
use Rattle.ur_lexer.proofs.Readings.Cuts.{cut_behind}
use Rattle.ur_lexer.proofs.Steps.StringSteps.{behind_on, behind_first}
use Rattle.ur_lexer.proofs.strings.string_token.Goals as goal

pub after-rest-requires : goal.after-rest-requires
after-rest-requires c = cut_behind c.args.text.now 1 c.utf8.text (omega arith) (omega arith) (omega (arith, c.requires.quote))

pub inside-init : goal.inside-init
inside-init c =
    let some : 0 < length c.args.text.now = c.requires.some in
    let long : length c.after-rest.result.now ≡ length c.args.text.now - 1 = ap length c.after-rest.ensures ∙ length-drop 1 c.args.text.now in
    record {
      value = rw (c.new-content.ensures, ← c.after-rest.ensures) (behind_first (quoted c.after-rest.result.now) _ (omega (arith, long)));
      within = omega (arith, long, some);
      text = c.after-rest.utf8;
    }

pub inside-preserved-in-Plain : goal.inside-preserved-in-Plain
inside-preserved-in-Plain c =
    let rest = c.inside.rest.now in
    let n = c.in-Plain.len in
    let piece = c.in-Plain.ensures in
    let within = c.inside.invariant.within in
    let pushed : c.push_str.new.self ≡ c.inside.content ++ take n rest = c.in_ok-push_str-in-Plain.ensures.ok ∙ ap (λ (x : List ℕ). c.inside.content ++ x) c.front.ensures in
    let left = c.after-rest-in-Plain.ensures in
    let long : length (drop n rest) ≡ length rest - n = length-drop n rest in
    let room : n ≤ length rest = piece.1.0 in
    record {
      value = rw (pushed, left) (behind_on _ c.inside.content (take n rest) _ n _ (quoted rest) (quoted (drop n rest)) c.inside.invariant.value piece.2 (omega (arith, long, room, within)));
      within = omega (arith, ap length left, long, within);
      text = c.after-rest-in-Plain.utf8;
    }

pub inside-preserved : goal.inside-preserved
inside-preserved c =
    let rest = c.inside.rest.now in
    let piece = c.in-Escape.ensures in
    let within = c.inside.invariant.within in
    let pushed : c.push.new.self ≡ c.inside.content ++ encode_utf8 c.in-Escape.character = c.in_ok-push-in-Escape.ensures.ok in
    let left = c.after-rest-in-Escape.ensures in
    let long : length (drop 2 rest) ≡ length rest - 2 = length-drop 2 rest in
    let room : 2 ≤ length rest = piece.0.0 in
    record {
      value = rw (pushed, left) (behind_on _ c.inside.content (encode_utf8 c.in-Escape.character) _ 2 _ (quoted rest) (quoted (drop 2 rest)) c.inside.invariant.value piece.1 (omega (arith, long, room, within)));
      within = omega (arith, ap length left, long, within);
      text = c.after-rest-in-Escape.utf8;
    }
