-- Terms in brackets.
use Rattle.std.specs.Prelude.{ℕ, ◌+◌, List, [], ◌∷◌}
use Rattle.plain_tree.specs.Trees.{ExpTree, exp_typed, exp_rec, FieldTree, field, no_fields}
use Rattle.plain_tree.specs.ExpView.{fields_from}
use Rattle.surface_tree.specs.declared.kind.Kind.{Kind}
use Rattle.surface_tree.specs.declared.kind.Kind.TheVariants.{Comma, Colon}
use Rattle.desugar_values.specs.Meanings.{MeaningTree, absent, a_word, several, group, a_kind, a_con, a_pat, an_exp, a_node, MeaningsTree, no_meaning, meaning}
use Rattle.desugar_values.specs.Parts.{behind, part, start_of, word_of, several_of, group_of, con_of, exp_of}
use Rattle.desugar_values.specs.Words.{component}
use Rattle.desugar_terms.specs.Placed.{a_term}

-- the component of a tuple that has this number, at the byte at which its tree begins
abbrev pub tuple_field : ℕ → ℕ → ExpTree → FieldTree
tuple_field start n e = field start (component start n) e

-- the component of a tuple that a tree stands for
abbrev pub component_of : ℕ → MeaningTree → FieldTree
component_of n m = tuple_field (start_of m) n (exp_of m)

-- the components of a tuple from this number on
abbrev pub components_of : ℕ → MeaningsTree → List FieldTree
components_of n no_meaning = []
components_of n (meaning m ms) = component_of n m ∷ components_of (n + 1) ms

-- the fields of a tuple: the first component, and `Exp {ExpComma} ")"` behind its comma
abbrev pub tuple_fields : ℕ → ExpTree → MeaningsTree → List FieldTree
tuple_fields start e ps =
    tuple_field start 1 e ∷ component_of 2 (part 0 ps) ∷ components_of 3 (several_of (part 1 ps))

-- `"(" Exp ParenTuple`, `ParenTuple = "," Exp {ExpComma} ")"`, with the parts behind the comma
abbrev pub tuple : ℕ → ℕ → ExpTree → MeaningsTree → MeaningTree
tuple at start e ps = a_term at (exp_rec (fields_from (tuple_fields start e ps)))

-- `"(" Exp ParenTyped`, `ParenTyped = ":" Con ")"`, with the parts behind the colon
abbrev pub typed : ℕ → ExpTree → MeaningsTree → MeaningTree
typed at e ps = a_term at (exp_typed e (con_of (part 0 ps)))

-- `"(" ParenUnit`, `ParenUnit = ")"`: the record without fields
abbrev pub unit : ℕ → MeaningTree
unit at = a_term at (exp_rec no_fields)

-- `"(" Exp ParenEnd`, by the first word of the end: a term that only stands in brackets keeps its own place
abbrev pub group_by : Kind → ℕ → ℕ → ExpTree → MeaningsTree → MeaningTree
group_by Comma at start e ps = tuple at start e ps
group_by Colon at start e ps = typed at e ps
group_by _ at start e ps = an_exp at e

-- `"(" Exp ParenEnd`
abbrev pub in_brackets : ℕ → ℕ → ExpTree → MeaningsTree → MeaningTree
in_brackets at start e ps = group_by (word_of (part 0 ps)).kind at start e (behind ps)

-- `"(" ParenRest`, by the first part of what stands behind the bracket: `ParenUnit = ")"`,
-- `ParenGroup = Exp ParenEnd`; a query stands for nothing yet
abbrev pub parens_by : MeaningTree → ℕ → MeaningsTree → MeaningTree
parens_by absent at ms = absent
parens_by (a_word t) at ms = unit at
parens_by (several x) at ms = absent
parens_by (group x) at ms = absent
parens_by (a_kind x) at ms = absent
parens_by (a_con s c) at ms = absent
parens_by (a_pat s p) at ms = absent
parens_by (an_exp s e) at ms = in_brackets at s e (group_of (part 0 ms))
parens_by (a_node n) at ms = absent

-- `ParenRest`, behind a bracket at this byte
abbrev pub parens_rest : ℕ → MeaningsTree → MeaningTree
parens_rest at ps = parens_by (part 0 ps) at (behind ps)

-- `PrimaryParens = "(" ParenRest`
abbrev pub parens : MeaningsTree → MeaningTree
parens ps = parens_rest (start_of (part 0 ps)) (group_of (part 1 ps))
