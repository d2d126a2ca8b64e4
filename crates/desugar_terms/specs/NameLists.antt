-- Names one after another.
use Rattle.std.specs.Prelude.{List, [], ◌∷◌}
use Rattle.plain_tree.specs.declared.names.Word.{Word}
use Rattle.desugar_values.specs.Meanings.{MeaningsTree, no_meaning, meaning}
use Rattle.desugar_values.specs.Parts.{named, word_of}

-- words as names
abbrev pub names_of : MeaningsTree → List Word
names_of no_meaning = []
names_of (meaning m ms) = named (word_of m) ∷ names_of ms
