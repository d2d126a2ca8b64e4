use Rattle.std.proofs.Common.{◌≡◌, ◌++◌, map}
use Rattle.desugar_values.specs.View.{meaning_tree, meanings_from, meanings_tree}
use Rattle.desugar_values.specs.Words.{texts}
use Rattle.desugar_values.proofs.words.modules.Given as goal

abbrev pub invariant-loop-word : goal.invariant-loop-word
invariant-loop-word l = l.made ++ texts (meanings_from (map meaning_tree l.word-iterator.rest.items)) ≡ texts (meanings_tree l.fn.words)
