-- The fields of rows.
use Rattle.std.specs.Prelude.{ℕ, List, [], ◌∷◌, Option, Some, None}
use Rattle.plain_tree.specs.Trees.{ConTree, con, con_unit, ConFieldTree, con_field}
use Rattle.desugar_values.specs.Meanings.{MeaningTree, absent, a_word, several, group, a_kind, a_con, a_pat, an_exp, a_node, MeaningsTree, no_meaning, meaning}
use Rattle.desugar_values.specs.Parts.{con_of, group_of, maybe_con_of, part, several_of}
use Rattle.desugar_values.specs.Words.{field_name}

-- the byte of a constructor
abbrev pub at_of : ConTree → ℕ
at_of (con at form) = at

-- a field at its name
abbrev pub field_at : ConTree → ConTree → ConFieldTree
field_at name value = con_field (at_of name) name value

-- a field's value; without `=` it is `()`, which stands at the name
abbrev pub value_or_unit : ConTree → Option ConTree → ConTree
value_or_unit name None = con (at_of name) con_unit
value_or_unit name (Some c) = c

-- ConRowMore = "," FieldName [ConFieldValue]
abbrev pub row_more : MeaningsTree → ConFieldTree
row_more ps = field_at (field_name (part 1 ps)) (value_or_unit (field_name (part 1 ps)) (maybe_con_of (part 2 ps)))

abbrev pub rows_more : MeaningsTree → List ConFieldTree
rows_more no_meaning = []
rows_more (meaning m ms) = row_more (group_of m) ∷ rows_more ms

-- a row by its first name, that one's value and `{ConRowMore}`
abbrev pub row_with : ConTree → Option ConTree → MeaningsTree → List ConFieldTree
row_with name value more = field_at name (value_or_unit name value) ∷ rows_more more

-- ConRowFields = FieldName [ConFieldValue] {ConRowMore}
abbrev pub row_fields : MeaningTree → List ConFieldTree
row_fields (group ps) = row_with (field_name (part 0 ps)) (maybe_con_of (part 1 ps)) (several_of (part 2 ps))
row_fields absent = []
row_fields (a_word t) = []
row_fields (several ms) = []
row_fields (a_kind x) = []
row_fields (a_con s c) = []
row_fields (a_pat s p) = []
row_fields (an_exp s e) = []
row_fields (a_node n) = []

-- ConFieldMore = "," FieldName ":" Con
abbrev pub field_more : MeaningsTree → ConFieldTree
field_more ps = field_at (field_name (part 1 ps)) (con_of (part 3 ps))

abbrev pub fields_more : MeaningsTree → List ConFieldTree
fields_more no_meaning = []
fields_more (meaning m ms) = field_more (group_of m) ∷ fields_more ms

-- FieldName ":" Con {ConFieldMore}
abbrev pub types_with : MeaningsTree → List ConFieldTree
types_with ps = field_at (field_name (part 0 ps)) (con_of (part 2 ps)) ∷ fields_more (several_of (part 3 ps))

-- ConFieldTypes = FieldName ":" Con {ConFieldMore}
abbrev pub field_types : MeaningTree → List ConFieldTree
field_types (group ps) = types_with ps
field_types absent = []
field_types (a_word t) = []
field_types (several ms) = []
field_types (a_kind x) = []
field_types (a_con s c) = []
field_types (a_pat s p) = []
field_types (an_exp s e) = []
field_types (a_node n) = []
