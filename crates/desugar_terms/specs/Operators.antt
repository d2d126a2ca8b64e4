-- Comparisons, lists and the sign.
use Rattle.std.specs.Prelude.{ℕ}
use Rattle.plain_tree.specs.Trees.{ExpTree, exp, FormTree, exp_rec, FieldTree, field, no_fields, more_fields}
use Rattle.plain_tree.specs.declared.names.Basis.TheVariants as basis
use Rattle.plain_tree.specs.declared.names.BasisBuilder.TheVariants as value
use Rattle.surface_tree.specs.declared.kind.Kind.{Kind}
use Rattle.surface_tree.specs.declared.kind.Kind.TheVariants as k
use Rattle.surface_tree.specs.declared.token.Token.{Token}
use Rattle.desugar_values.specs.Meanings.{MeaningTree, absent, a_word, several, group, a_kind, a_con, a_pat, an_exp, a_node, MeaningsTree}
use Rattle.desugar_values.specs.Parts.{exp_of, part, start_of, word_of}
use Rattle.desugar_values.specs.Words.{component}
use Rattle.desugar_terms.specs.Made.{call_one, call_two, term_at}

-- a comparison with both sides: x > y is `lt y x`, and x >= y is `le y x`
abbrev pub compared : Kind → ℕ → ExpTree → ExpTree → FormTree
compared k.NotEqual at x y = call_two at basis.Ne x y
compared k.LessThan at x y = call_two at basis.Lt x y
compared k.LessOrEqual at x y = call_two at basis.Le x y
compared k.GreaterThan at x y = call_two at basis.Lt y x
compared k.GreaterOrEqual at x y = call_two at basis.Le y x
compared _ at x y = call_two at basis.Eq x y

-- a comparison by its operator
abbrev pub compared_by : Token → ExpTree → ExpTree → FormTree
compared_by t x y = compared t.kind t.at x y

-- an operator and a term, behind a term
abbrev pub compare_rest : MeaningTree → MeaningsTree → MeaningTree
compare_rest m rest = term_at (start_of m) (compared_by (word_of (part 0 rest)) (exp_of m) (exp_of (part 1 rest)))

-- a term, and what it is compared with, if anything
abbrev pub compare_with : MeaningTree → MeaningTree → MeaningTree
compare_with m (group rest) = compare_rest m rest
compare_with m absent = m
compare_with m (a_word t) = m
compare_with m (several ms) = m
compare_with m (a_kind x) = m
compare_with m (a_con s c) = m
compare_with m (a_pat s p) = m
compare_with m (an_exp s e) = m
compare_with m (a_node n) = m

-- Compare = Cons [CompareMore]
abbrev pub compare : MeaningsTree → MeaningTree
compare ps = compare_with (part 0 ps) (part 1 ps)

-- a component of a pair
abbrev pub component_field : ℕ → MeaningTree → FieldTree
component_field n m = field (start_of m) (component (start_of m) n) (exp_of m)

-- the pair of two terms
abbrev pub pair : MeaningTree → MeaningTree → ExpTree
pair m n =
    exp (start_of m)
    (exp_rec (more_fields (component_field 1 m) (more_fields (component_field 2 n) no_fields)))

-- "::" and a term, behind a term: `Cons` on a pair
abbrev pub cons_rest : MeaningTree → MeaningsTree → MeaningTree
cons_rest m rest =
    term_at (start_of m) (call_one (start_of (part 0 rest)) (basis.Builder value.Cons) (pair m (part 1 rest)))

-- a term, and the list that it stands before, if any
abbrev pub cons_with : MeaningTree → MeaningTree → MeaningTree
cons_with m (group rest) = cons_rest m rest
cons_with m absent = m
cons_with m (a_word t) = m
cons_with m (several ms) = m
cons_with m (a_kind x) = m
cons_with m (a_con s c) = m
cons_with m (a_pat s p) = m
cons_with m (an_exp s e) = m
cons_with m (a_node n) = m

-- Cons = Join [ConsMore]
abbrev pub cons : MeaningsTree → MeaningTree
cons ps = cons_with (part 0 ps) (part 1 ps)

-- SignMinus = "-" Sign
abbrev pub sign_minus : MeaningsTree → MeaningTree
sign_minus ps = term_at (start_of (part 0 ps)) (call_one (start_of (part 0 ps)) basis.Neg (exp_of (part 1 ps)))
