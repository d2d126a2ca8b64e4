use Rattle.std.proofs.Common.{List, ℕ}
use Rattle.link_router.specs.Reading.{IsWords, few_for_text, no_text}
use Rattle.link_router.proofs.OnePiece.{words_read, first_bad, none_left, if_some, if_none}
use Rattle.link_router.proofs.reader.read_words.Goals as goal

pub returns-in_default-clause-err : goal.returns-in_default-clause-err
returns-in_default-clause-err c D = none_left c.in_default.ensures.none few_for_text

pub returns-in-Some-read-clause-ok : goal.returns-in-Some-read-clause-ok
returns-in-Some-read-clause-ok c D = words_read _ c.in-Some.ensures.some c.pass.ensures (if_some (λ t. IsWords c.in-Some.piece.now t) _ c.in_ok-read.ensures.some c.in-Some-read.is)

pub returns-in-None-clause-err : goal.returns-in-None-clause-err
returns-in-None-clause-err c D = first_bad c.in-Some.ensures.some (no_text (if_none ((t : List ℕ) → IsWords c.in-Some.piece.now t → ⊥) _ c.in_ok-read.ensures.none c.in-None.is))
