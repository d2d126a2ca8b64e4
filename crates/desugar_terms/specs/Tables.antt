-- Declarations of tables and cookies. Each is told from the word behind its keyword on, and stands at the keyword.
use Rattle.std.specs.Prelude.{ℕ, List, [], ◌∷◌}
use Rattle.plain_tree.specs.Trees.{KeyedTree, SignedTree}
use Rattle.plain_tree.specs.declared.names.Word.{Word}
use Rattle.surface_tree.specs.declared.kind.Kind.{Kind}
use Rattle.surface_tree.specs.declared.kind.Kind.TheVariants.{LeftParenthesis}
use Rattle.surface_tree.specs.declared.token.Token.{Token}
use Rattle.desugar_values.specs.Meanings.{MeaningTree, absent, a_word, several, group, a_kind, a_con, a_pat, an_exp, a_node, MeaningsTree}
use Rattle.desugar_values.specs.Parts.{behind, con_of, group_of, named, part, several_of, word_of}
use Rattle.desugar_terms.specs.NameLists.{names_of}

-- the columns of a key by its first word: a list in parentheses, or that word alone
abbrev pub columns_by : Kind → Token → MeaningsTree → List Word
columns_by LeftParenthesis t ps = named (word_of (part 0 ps)) ∷ names_of (several_of (part 1 ps))
columns_by _ t ps = named t ∷ []

abbrev pub columns : MeaningsTree → List Word
columns ps = columns_by (word_of (part 0 ps)).kind (word_of (part 0 ps)) (behind ps)

-- the columns of a mark `"PRIMARY" "KEY" KeyColumns`; none without a mark
abbrev pub key_of : MeaningTree → List Word
key_of (group ps) = columns (group_of (part 2 ps))
key_of absent = []
key_of (a_word t) = []
key_of (several ms) = []
key_of (a_kind x) = []
key_of (a_con s c) = []
key_of (a_pat s p) = []
key_of (an_exp s e) = []
key_of (a_node n) = []

-- `lower ":" Con [KeyMark]`
abbrev pub table : ℕ → MeaningsTree → KeyedTree
table p ps =
    record { at = p; name = named (word_of (part 0 ps)); con = con_of (part 2 ps); key = key_of (part 3 ps) }

-- `lower ":" Con`, of a cookie or of a value of an interface
abbrev pub signed : ℕ → MeaningsTree → SignedTree
signed p ps = record { at = p; name = named (word_of (part 0 ps)); con = con_of (part 2 ps) }
