use Rattle.std.proofs.Common.{◌≡◌, drop}
use Rattle.surface_grammar.specs.Words.{any_accepts}
use Rattle.surface_grammar.proofs.words.any_accepts.Given as goal

abbrev pub invariant-loop-word : goal.invariant-loop-word
invariant-loop-word l = any_accepts (drop l.word-index l.words) l.found ≡ any_accepts l.words l.found
