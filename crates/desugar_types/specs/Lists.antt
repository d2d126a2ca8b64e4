-- The trees of repetitions as lists.
use Rattle.std.specs.Prelude.{ℕ, suc, List, [], ◌∷◌}
use Rattle.plain_tree.specs.Trees.{ConTree, ConFieldTree, con_field}
use Rattle.desugar_values.specs.Meanings.{MeaningTree, MeaningsTree, no_meaning, meaning}
use Rattle.desugar_values.specs.Parts.{con_of, number, start_of, word_of}
use Rattle.desugar_values.specs.Words.{component}

-- the numbers of tokens
abbrev pub numbers_of : MeaningsTree → List ℕ
numbers_of no_meaning = []
numbers_of (meaning m ms) = number (word_of m).content ∷ numbers_of ms

-- the bytes at which trees begin
abbrev pub places_of : MeaningsTree → List ℕ
places_of no_meaning = []
places_of (meaning m ms) = start_of m ∷ places_of ms

abbrev pub cons_of : MeaningsTree → List ConTree
cons_of no_meaning = []
cons_of (meaning m ms) = con_of m ∷ cons_of ms

-- a constructor as the component of a tuple with this number
abbrev pub component_of : ℕ → MeaningTree → ConFieldTree
component_of n m = con_field (start_of m) (component (start_of m) n) (con_of m)

-- constructors as the components of a tuple, from this number on
abbrev pub components_of : ℕ → MeaningsTree → List ConFieldTree
components_of n no_meaning = []
components_of n (meaning m ms) = component_of n m ∷ components_of (suc n) ms
