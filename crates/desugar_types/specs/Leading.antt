-- The word with which the parts of a rule begin.
use Rattle.surface_tree.specs.declared.kind.Kind.{Kind}
use Rattle.desugar_values.specs.Meanings.{MeaningsTree}
use Rattle.desugar_values.specs.Parts.{first, word_of}

-- the kind of the word with which these parts begin; where they begin with no word, that of `_`
abbrev pub leading : MeaningsTree → Kind
leading ms = (word_of (first ms)).kind
