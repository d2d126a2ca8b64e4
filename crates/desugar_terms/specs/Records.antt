-- Records.
use Rattle.std.specs.Prelude.{ℕ, List, [], ◌∷◌}
use Rattle.plain_tree.specs.Trees.{ConTree, con, ExpTree, exp_rec, FieldTree, field}
use Rattle.plain_tree.specs.ExpView.{fields_from}
use Rattle.desugar_values.specs.Meanings.{MeaningTree, absent, a_word, several, group, a_kind, a_con, a_pat, an_exp, a_node, MeaningsTree, no_meaning, meaning}
use Rattle.desugar_values.specs.Parts.{behind, part, start_of, several_of, group_of, exp_of}
use Rattle.desugar_values.specs.Words.{field_name}
use Rattle.desugar_terms.specs.Placed.{a_term}

-- the byte at which a constructor stands
abbrev pub place_of : ConTree → ℕ
place_of (con at form) = at

-- a field, which stands at its name
abbrev pub named_field : ConTree → ExpTree → FieldTree
named_field c e = field (place_of c) c e

-- `FieldName "=" Exp`
abbrev pub field_term : MeaningsTree → FieldTree
field_term ps = named_field (field_name (part 0 ps)) (exp_of (part 2 ps))

-- `ExpFieldMore = "," FieldName "=" Exp`
abbrev pub field_more : MeaningTree → FieldTree
field_more m = field_term (behind (group_of m))

-- `{ExpFieldMore}`
abbrev pub fields_more : MeaningsTree → List FieldTree
fields_more no_meaning = []
fields_more (meaning m ms) = field_more m ∷ fields_more ms

-- `ExpFields = FieldName "=" Exp {ExpFieldMore}`
abbrev pub exp_fields : MeaningsTree → List FieldTree
exp_fields ps = field_term ps ∷ fields_more (several_of (part 3 ps))

-- `[ExpFields]`
abbrev pub maybe_fields : MeaningTree → List FieldTree
maybe_fields absent = []
maybe_fields (a_word t) = []
maybe_fields (several ms) = []
maybe_fields (group ps) = exp_fields ps
maybe_fields (a_kind x) = []
maybe_fields (a_con s c) = []
maybe_fields (a_pat s p) = []
maybe_fields (an_exp s e) = []
maybe_fields (a_node n) = []

-- `PrimaryRecord = "{" [ExpFields] "}"`
abbrev pub record_term : MeaningsTree → MeaningTree
record_term ps = a_term (start_of (part 0 ps)) (exp_rec (fields_from (maybe_fields (part 1 ps))))
