-- Declarations of types. Each is told from the word behind its keyword on, and stands at the keyword.
use Rattle.std.specs.Prelude.{ℕ, List, [], ◌∷◌, Some}
use Rattle.con_terms.specs.Trees.{types}
use Rattle.plain_tree.specs.Trees.{TypeDeclTree, BuilderTree, DatatypeTree}
use Rattle.desugar_values.specs.Meanings.{MeaningTree, MeaningsTree, no_meaning, meaning}
use Rattle.desugar_values.specs.Parts.{con_of, group_of, maybe_con_of, maybe_kind_of, named, part, several_of, word_of}
use Rattle.desugar_terms.specs.NameLists.{names_of}

-- `lower [KindMark] "=" Con`
abbrev pub con_declared : ℕ → MeaningsTree → TypeDeclTree
con_declared p ps =
    record { at = p; name = named (word_of (part 0 ps)); kind = maybe_kind_of (part 1 ps); con = con_of (part 3 ps) }

-- `lower "=" Con`, whose kind is Type
abbrev pub type_declared : ℕ → MeaningsTree → TypeDeclTree
type_declared p ps =
    record { at = p; name = named (word_of (part 0 ps)); kind = Some types; con = con_of (part 2 ps) }

-- `upper [ConstructorOf]`
abbrev pub builder : MeaningsTree → BuilderTree
builder ps = record { name = named (word_of (part 0 ps)); holds = maybe_con_of (part 1 ps) }

abbrev pub builder_of : MeaningTree → BuilderTree
builder_of m = builder (group_of m)

-- constructors of a datatype, in order
abbrev pub builders_of : MeaningsTree → List BuilderTree
builders_of no_meaning = []
builders_of (meaning m ms) = builder_of m ∷ builders_of ms

-- `lower {Parameter} "=" Constructor {ConstructorMore}`
abbrev pub datatype : ℕ → MeaningsTree → DatatypeTree
datatype p ps = record {
  at = p;
  name = named (word_of (part 0 ps));
  parameters = names_of (several_of (part 1 ps));
  builders = builder_of (part 3 ps) ∷ builders_of (several_of (part 4 ps));
}
