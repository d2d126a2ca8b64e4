use Rattle.std.proofs.Common.{◌≡◌, ◌≤◌, ◌-◌, length}
use Rattle.std.specs.Prelude.{IsUtf8}
use Rattle.ur_lexer.specs.Markup.{run_from, joined}
use Rattle.ur_lexer.proofs.markup.run.Given as goal

abbrev pub invariant-pieces : goal.invariant-pieces
invariant-pieces l = record {
  value : run_from 0 l.text ≡ joined l.content (length l.text - length l.rest) (run_from 0 l.rest);
  within : length l.rest ≤ length l.text;
  text : IsUtf8 l.rest;
}

abbrev pub decreases-pieces : goal.decreases-pieces
decreases-pieces l = length l.rest
