use Rattle.std.proofs.Common.{◌≡◌, ◌≤◌, ◌+◌, ◌-◌, ◌++◌, length, List}
use Rattle.std.specs.Prelude.{IsUtf8}
use Rattle.ur_lexer.specs.Lexing.{Piece, Ending, IsCut, tokens_of}
use Rattle.ur_lexer.specs.Modes.{start}
use Rattle.ur_lexer.proofs.lexer.lex.Given as goal

abbrev pub invariant-steps : goal.invariant-steps
invariant-steps l = record {
  sound : (pieces : List Piece) (ending : Ending) → IsCut l.state (length l.text - length l.rest) l.rest pieces ending
      → (all : List Piece) × IsCut start 0 l.text all ending × (tokens_of 0 all ≡ l.tokens.items ++ tokens_of (length l.text - length l.rest) pieces);
  few : length l.tokens.items + length l.rest ≤ length l.text;
  within : length l.rest ≤ length l.text;
  text : IsUtf8 l.rest;
  end : l.tokens.end ≡ length l.text;
}

abbrev pub decreases-steps : goal.decreases-steps
decreases-steps l = length l.rest
