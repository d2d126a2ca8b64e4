use Rattle.std.proofs.Common.{◌≡◌, true, false, get_or, sym, ◌∙◌}
use Rattle.std.specs.Prelude.{◌==◌}
use Rattle.std.specs.Char.{is_ascii_uppercase, is_ascii_digit}
use Rattle.std.proofs.lemmas.Bool.{ne_eqb}
use Rattle.ur_lexer.specs.Bytes.{begins_lower}
use Rattle.ur_lexer.specs.Results.{Gives}
use Rattle.ur_lexer.specs.Code.{symbol_token}
use Rattle.ur_lexer.specs.Words.{symbols}
use Rattle.ur_lexer.proofs.Front.CodeTokens.{at_lower, at_upper, at_symbol}
use Rattle.ur_lexer.proofs.code.code_token.Goals as goal

pub returns-then-begins_lower : goal.returns-then-begins_lower
returns-then-begins_lower c =
    let is = c.as_bytes-bytes.ensures.value in
    let lower : begins_lower (get_or c.as_bytes-bytes.result.now 0 0) ≡ true = sym c.begins_lower.ensures ∙ c.if-begins_lower.true in
    at_lower c.args.text.now c.args.at c.name_token.result (rw (← is) lower) c.name_token.ensures

pub returns-then-is_ascii_uppercase : goal.returns-then-is_ascii_uppercase
returns-then-is_ascii_uppercase c =
    let is = c.as_bytes-bytes.ensures.value in
    let lower : begins_lower (get_or c.as_bytes-bytes.result.now 0 0) ≡ false = sym c.begins_lower.ensures ∙ c.if-begins_lower.false in
    let upper : is_ascii_uppercase (get_or c.as_bytes-bytes.result.now 0 0) ≡ true = sym c.is_ascii_uppercase.ensures.value ∙ c.if-is_ascii_uppercase.true in
    at_upper c.args.text.now c.args.at c.name_token-then-is_ascii_uppercase.result (rw (← is) lower) (rw (← is) upper) c.name_token-then-is_ascii_uppercase.ensures

pub returns-else-first-eq34 : goal.returns-else-first-eq34
returns-else-first-eq34 c =
    let is = c.as_bytes-bytes.ensures.value in
    let lower : begins_lower (get_or c.as_bytes-bytes.result.now 0 0) ≡ false = sym c.begins_lower.ensures ∙ c.if-begins_lower.false in
    let upper : is_ascii_uppercase (get_or c.as_bytes-bytes.result.now 0 0) ≡ false = sym c.is_ascii_uppercase.ensures.value ∙ c.if-is_ascii_uppercase.false in
    let digit : is_ascii_digit (get_or c.as_bytes-bytes.result.now 0 0) ≡ false = sym c.is_ascii_digit.ensures.value ∙ c.if-is_ascii_digit.false in
    let quote : (get_or c.as_bytes-bytes.result.now 0 0 == 34) ≡ false = ne_eqb _ 34 c.if-first-eq34.false in
    let told : Gives c.symbol_token.result (symbol_token symbols c.as_bytes-bytes.result.now c.args.at) = c.symbol_token.ensures in
    at_symbol c.args.text.now c.args.at c.symbol_token.result (rw (← is) lower) (rw (← is) upper) (rw (← is) digit) (rw (← is) quote) (rw (← is) told)
