use Rattle.std.proofs.Common.{◌≡◌, ◌≤◌, ◌+◌, ◌-◌, List, [], ◌∷◌, ◌++◌, length, length-append, sym, ap, ◌∙◌, arith, length-drop}
use Rattle.std.proofs.lemmas.Result.{err_from_is_err_and}
use Rattle.surface_tree.specs.declared.token.Token.{Token}
use Rattle.ur_lexer.specs.Lexing.{IsBlank, IsToken}
use Rattle.ur_lexer.proofs.Readings.Ends.{blank_cut, token_cut}
use Rattle.ur_lexer.proofs.Meaning.Found.{ahead_end, ahead_blank, ahead_word}
use Rattle.ur_lexer.proofs.Readings.Growing.{grows_start, grows_blank, grows_word, lexes_end, told, only_memory, that_fault, not_both}
use Rattle.ur_lexer.proofs.lexer.lex.Goals as goal

one_more : (xs ys : List Token) (t : Token) → ys ≡ xs ++ t ∷ [] → length ys ≡ length xs + 1
one_more xs ys t e = ap length e ∙ length-append xs (t ∷ [])

pub steps-init : goal.steps-init
steps-init c = record {
  sound = grows_start c.args.text.now _ _ _ (sym c.new-tokens.ensures.items) (sym c.new-state.ensures) (omega arith);
  few = omega (arith, ap length c.new-tokens.ensures.items);
  within = omega arith;
  text = c.utf8.text;
  end = c.new-tokens.ensures.end;
}

pub returns-in_err-look_ahead-clause-fault : goal.returns-in_err-look_ahead-clause-fault
returns-in_err-look_ahead-clause-fault c =
    let p = err_from_is_err_and c.from_residual.result c.from_residual.ensures.1 in
    rw (p.1, p.2) (told c.args.text.now _ c.steps.state _ c.steps.rest.now c.in_err-look_ahead.field-0.0 c.steps.invariant.sound c.in_err-look_ahead.ensures.found)

pub returns-in_err-look_ahead-clause-no_fault : goal.returns-in_err-look_ahead-clause-no_fault
returns-in_err-look_ahead-clause-no_fault c tokens l =
    let p = err_from_is_err_and c.from_residual.result c.from_residual.ensures.1 in
    rw (p.1, p.2) (only_memory c.args.text.now _ tokens (told c.args.text.now _ c.steps.state _ c.steps.rest.now c.in_err-look_ahead.field-0.0 c.steps.invariant.sound c.in_err-look_ahead.ensures.found) l)

pub returns-in_err-look_ahead-clause-no_tokens : goal.returns-in_err-look_ahead-clause-no_tokens
returns-in_err-look_ahead-clause-no_tokens c tokens fault l =
    let p = err_from_is_err_and c.from_residual.result c.from_residual.ensures.1 in
    rw (p.1, p.2) (that_fault c.args.text.now _ fault tokens (told c.args.text.now _ c.steps.state _ c.steps.rest.now c.in_err-look_ahead.field-0.0 c.steps.invariant.sound c.in_err-look_ahead.ensures.found) l)

pub returns-in-End-clause-tokens : goal.returns-in-End-clause-tokens
returns-in-End-clause-tokens c =
    lexes_end c.args.text.now _ c.steps.state _ c.steps.rest.now c.steps.invariant.sound (ahead_end c.steps.state c.steps.rest.now _ (rw c.in-End.is at c.in_ok-look_ahead.ensures.found))

pub returns-in-End-clause-no_tokens : goal.returns-in-End-clause-no_tokens
returns-in-End-clause-no_tokens c tokens fault l =
    not_both c.args.text.now _ tokens fault (lexes_end c.args.text.now _ c.steps.state _ c.steps.rest.now c.steps.invariant.sound (ahead_end c.steps.state c.steps.rest.now _ (rw c.in-End.is at c.in_ok-look_ahead.ensures.found))) l

pub after-rest-requires : goal.after-rest-requires
after-rest-requires c = (blank_cut _ c.steps.rest.now c.in-Blank.len c.steps.invariant.text (ahead_blank c.steps.state c.steps.rest.now _ c.in-Blank.len (rw c.in-Blank.is at c.in_ok-look_ahead.ensures.found))).1

pub steps-smaller-in-Blank : goal.steps-smaller-in-Blank
steps-smaller-in-Blank c =
    let cut = blank_cut _ c.steps.rest.now c.in-Blank.len c.steps.invariant.text (ahead_blank c.steps.state c.steps.rest.now _ c.in-Blank.len (rw c.in-Blank.is at c.in_ok-look_ahead.ensures.found)) in
    let room : c.in-Blank.len ≤ length c.steps.rest.now = cut.1.0 in
    omega (arith, ap length c.after-rest.ensures, length-drop c.in-Blank.len c.steps.rest.now, cut.0, room)

pub steps-preserved-in-Blank : goal.steps-preserved-in-Blank
steps-preserved-in-Blank c =
    let is : IsBlank c.steps.state.mode c.steps.rest.now c.in-Blank.len = ahead_blank c.steps.state c.steps.rest.now _ c.in-Blank.len (rw c.in-Blank.is at c.in_ok-look_ahead.ensures.found) in
    let cut = blank_cut _ c.steps.rest.now c.in-Blank.len c.steps.invariant.text is in
    let room : c.in-Blank.len ≤ length c.steps.rest.now = cut.1.0 in
    let long : length c.after-rest.result.now ≡ length c.steps.rest.now - c.in-Blank.len = ap length c.after-rest.ensures ∙ length-drop c.in-Blank.len c.steps.rest.now in
    let within = c.steps.invariant.within in
    record {
      sound = grows_blank c.args.text.now _ c.steps.state _ c.steps.rest.now c.in-Blank.len _ _ c.steps.invariant.sound is (omega (arith, long, room, within)) (sym c.after-rest.ensures);
      few = omega (arith, long, room, c.steps.invariant.few);
      within = omega (arith, long, within);
      text = c.after-rest.utf8;
      end = c.steps.invariant.end;
    }

pub after-rest-requires-in-Word : goal.after-rest-requires-in-Word
after-rest-requires-in-Word c = (token_cut c.steps.state c.steps.rest.now c.in-Word.found c.steps.invariant.text (ahead_word c.steps.state c.steps.rest.now _ c.in-Word.found (rw c.in-Word.is at c.in_ok-look_ahead.ensures.found))).1

pub steps-smaller : goal.steps-smaller
steps-smaller c =
    let cut = token_cut c.steps.state c.steps.rest.now c.in-Word.found c.steps.invariant.text (ahead_word c.steps.state c.steps.rest.now _ c.in-Word.found (rw c.in-Word.is at c.in_ok-look_ahead.ensures.found)) in
    let room : c.in-Word.found.len ≤ length c.steps.rest.now = cut.1.0 in
    omega (arith, ap length c.after-rest-in-Word.ensures, length-drop c.in-Word.found.len c.steps.rest.now, cut.0, room)

pub steps-preserved : goal.steps-preserved
steps-preserved c =
    let is : IsToken c.steps.state c.steps.rest.now c.in-Word.found = ahead_word c.steps.state c.steps.rest.now _ c.in-Word.found (rw c.in-Word.is at c.in_ok-look_ahead.ensures.found) in
    let cut = token_cut c.steps.state c.steps.rest.now c.in-Word.found c.steps.invariant.text is in
    let n = c.in-Word.found.len in
    let room : n ≤ length c.steps.rest.now = cut.1.0 in
    let long : length c.after-rest-in-Word.result.now ≡ length c.steps.rest.now - n = ap length c.after-rest-in-Word.ensures ∙ length-drop n c.steps.rest.now in
    let within = c.steps.invariant.within in
    record {
      sound = grows_word c.args.text.now _ c.steps.state _ c.steps.rest.now c.in-Word.found _ _ _ _ c.steps.invariant.sound is (sym c.in_ok-push-in-Word.ensures.ok) (sym c.in_ok-turn-in-Word.ensures) (omega (arith, long, room, within)) (sym c.after-rest-in-Word.ensures);
      few = omega (arith, long, room, cut.0, one_more _ _ _ c.in_ok-push-in-Word.ensures.ok, c.steps.invariant.few);
      within = omega (arith, long, within);
      text = c.after-rest-in-Word.utf8;
      end = c.in_ok-push-in-Word.ensures.end ∙ c.steps.invariant.end;
    }
