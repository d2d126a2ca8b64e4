-- The values of an interface.
use Rattle.std.specs.Prelude.{List, [], ◌∷◌}
use Rattle.plain_tree.specs.Trees.{SignedTree}
use Rattle.desugar_values.specs.Meanings.{MeaningTree, MeaningsTree, no_meaning, meaning}
use Rattle.desugar_values.specs.Parts.{behind, group_of, part, word_of}
use Rattle.desugar_terms.specs.Tables.{signed}

-- `"val" lower ":" Con`, at its first word
abbrev pub item : MeaningsTree → SignedTree
item ps = signed (word_of (part 0 ps)).at (behind ps)

-- the value that a tree stands for
abbrev pub signed_of : MeaningTree → SignedTree
signed_of m = item (group_of m)

-- the values of an interface, in order
abbrev pub signeds_of : MeaningsTree → List SignedTree
signeds_of no_meaning = []
signeds_of (meaning m ms) = signed_of m ∷ signeds_of ms
