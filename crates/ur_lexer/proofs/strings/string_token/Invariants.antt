use Rattle.std.proofs.Common.{◌≡◌, ◌≤◌, ◌+◌, ◌-◌, length, drop}
use Rattle.std.specs.Prelude.{IsUtf8}
use Rattle.ur_lexer.specs.Strings.{quoted, behind}
use Rattle.ur_lexer.proofs.strings.string_token.Given as goal

abbrev pub invariant-inside : goal.invariant-inside
invariant-inside l = record {
  value : quoted (drop 1 l.text) ≡ behind l.content (length l.text - 1 - length l.rest) (quoted l.rest);
  within : length l.rest + 1 ≤ length l.text;
  text : IsUtf8 l.rest;
}

abbrev pub decreases-inside : goal.decreases-inside
decreases-inside l = length l.rest
