-- Words as names and labels.
use Rattle.std.specs.Prelude.{ℕ, List, [], ◌∷◌}
use Rattle.plain_tree.specs.Trees.{ConTree, con, con_name, con_label}
use Rattle.plain_tree.specs.declared.names.Label.{Label}
use Rattle.plain_tree.specs.declared.names.Label.TheVariants as label
use Rattle.plain_tree.specs.declared.names.Path.{Path}
use Rattle.surface_tree.specs.declared.kind.Kind.{Kind}
use Rattle.surface_tree.specs.declared.kind.Kind.TheVariants.{Integer, LowerName}
use Rattle.surface_tree.specs.declared.token.Token.{Token}
use Rattle.desugar_values.specs.Meanings.{MeaningTree, absent, a_word, several, group, a_kind, a_con, a_pat, an_exp, a_node, MeaningsTree, no_meaning, meaning}
use Rattle.desugar_values.specs.Parts.{characters, number, word_of, part, start_of}

-- a name without modules
abbrev pub bare : List ℕ → Path
bare text = record { modules = []; name = text }

-- the label of a number is the number, that of another word the word
abbrev pub label_by : Kind → Token → Label
label_by Integer t = label.Number (number t.content)
label_by _ t = label.Word (characters t.content)

abbrev pub label_of : Token → Label
label_of t = label_by t.kind t

-- the name of a field: a lower-case name is a constructor variable, any other word a label
abbrev pub field_by : Kind → Token → ConTree
field_by LowerName t = con t.at (con_name (bare (characters t.content)))
field_by _ t = con t.at (con_label (label_of t))

abbrev pub field_word : Token → ConTree
field_word t = field_by t.kind t

-- `#` and a word, which stands at the `#`
abbrev pub hash_name : MeaningsTree → ConTree
hash_name ms = con (start_of (part 0 ms)) (con_label (label_of (word_of (part 1 ms))))

-- the name of a field: a word, or `#` and a word, which stands at the `#`
abbrev pub field_name : MeaningTree → ConTree
field_name (a_word t) = field_word t
field_name (group ms) = hash_name ms
field_name absent = hash_name no_meaning
field_name (several ms) = hash_name no_meaning
field_name (a_kind x) = hash_name no_meaning
field_name (a_con s c) = hash_name no_meaning
field_name (a_pat s p) = hash_name no_meaning
field_name (an_exp s e) = hash_name no_meaning
field_name (a_node n) = hash_name no_meaning

-- the label of a tuple's component, at the component
abbrev pub component : ℕ → ℕ → ConTree
component at n = con at (con_label (label.Number n))

-- the characters of words
abbrev pub texts : MeaningsTree → List (List ℕ)
texts no_meaning = []
texts (meaning m ms) = characters (word_of m).content ∷ texts ms
