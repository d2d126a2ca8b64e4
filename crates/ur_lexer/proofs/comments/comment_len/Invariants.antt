use Rattle.std.proofs.Common.{◌≡◌, ◌+◌, ◌≤◌, length, option_map}
use Rattle.ur_lexer.specs.Comments.{comment, inside}
use Rattle.ur_lexer.proofs.comments.comment_len.Given as goal

abbrev pub invariant-inside : goal.invariant-inside
invariant-inside l = record {
  value : comment l.bytes ≡ option_map (λ m. l.len + m) (inside l.depth l.rest);
  within : l.len + length l.rest ≡ length l.bytes;
  shallow : l.depth ≤ l.len;
  some : 2 ≤ l.len;
}

abbrev pub decreases-inside : goal.decreases-inside
decreases-inside l = length l.rest
