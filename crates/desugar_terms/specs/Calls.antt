-- Applications.
use Rattle.std.specs.Prelude.{ℕ, Bool, true, false, List, [], ◌∷◌}
use Rattle.plain_tree.specs.Trees.{ExpTree, exp_call, ItemTree, item_term, item_con, item_guard}
use Rattle.plain_tree.specs.ExpView.{items_from}
use Rattle.plain_tree.specs.declared.names.Basis.TheVariants as basis
use Rattle.plain_tree.specs.declared.names.BasisBuilder.TheVariants as value
use Rattle.surface_tree.specs.declared.kind.Kind.{Kind}
use Rattle.surface_tree.specs.declared.kind.Kind.TheVariants as k
use Rattle.surface_tree.specs.declared.token.Token.{Token}
use Rattle.desugar_values.specs.Meanings.{MeaningTree, absent, a_word, several, group, a_kind, a_con, a_pat, an_exp, a_node, MeaningsTree, no_meaning, meaning}
use Rattle.desugar_values.specs.Parts.{exp_of, group_of, part, several_of, start_of, word_of}
use Rattle.desugar_terms.specs.Chains.{is_none}
use Rattle.desugar_terms.specs.Dots.{with_dots}
use Rattle.desugar_terms.specs.Made.{basis_at, term_at}

-- the empty list, which begins at this place, with the projections of these dots behind it
abbrev pub empty_list : ℕ → MeaningsTree → ExpTree
empty_list at dots = with_dots at (basis_at at (basis.Builder value.Nil)) dots

-- what stands behind a bracket, which is at this place, by its first part: ArgumentCon = Con "]", or
-- ArgumentList = "]" {Dot}
abbrev pub bracket_by : ℕ → MeaningTree → MeaningTree → ItemTree
bracket_by at (a_con s c) m = item_con at c
bracket_by at absent m = item_term (empty_list at (several_of m))
bracket_by at (a_word t) m = item_term (empty_list at (several_of m))
bracket_by at (several ms) m = item_term (empty_list at (several_of m))
bracket_by at (group ms) m = item_term (empty_list at (several_of m))
bracket_by at (a_kind x) m = item_term (empty_list at (several_of m))
bracket_by at (a_pat s p) m = item_term (empty_list at (several_of m))
bracket_by at (an_exp s e) m = item_term (empty_list at (several_of m))
bracket_by at (a_node n) m = item_term (empty_list at (several_of m))

abbrev pub bracket_item : ℕ → MeaningsTree → ItemTree
bracket_item at rest = bracket_by at (part 0 rest) (part 1 rest)

-- an argument by its first word: a guard, or a bracket
abbrev pub argument_by : Kind → ℕ → MeaningTree → ItemTree
argument_by k.Exclamation at m = item_guard at
argument_by _ at m = bracket_item at (group_of m)

abbrev pub argument_with : Token → MeaningTree → ItemTree
argument_with t m = argument_by t.kind t.at m

-- ArgumentBracket = "[" ArgumentRest, ArgumentGuard = "!"
abbrev pub argument_of : MeaningsTree → ItemTree
argument_of ps = argument_with (word_of (part 0 ps)) (part 1 ps)

-- an argument
abbrev pub item_of : MeaningTree → ItemTree
item_of (group ps) = argument_of ps
item_of absent = item_term (exp_of absent)
item_of (a_word t) = item_term (exp_of (a_word t))
item_of (several ms) = item_term (exp_of (several ms))
item_of (a_kind x) = item_term (exp_of (a_kind x))
item_of (a_con s c) = item_term (exp_of (a_con s c))
item_of (a_pat s p) = item_term (exp_of (a_pat s p))
item_of (an_exp s e) = item_term e
item_of (a_node n) = item_term (exp_of (a_node n))

-- {Argument}
abbrev pub items_of : MeaningsTree → List ItemTree
items_of no_meaning = []
items_of (meaning m ms) = item_of m ∷ items_of ms

-- a term and its arguments
abbrev pub apply_to : MeaningTree → MeaningsTree → MeaningTree
apply_to m ms = term_at (start_of m) (exp_call (exp_of m) (items_from (items_of ms)))

-- without an argument the term alone
abbrev pub apply_when : Bool → MeaningTree → MeaningsTree → MeaningTree
apply_when true m ms = m
apply_when false m ms = apply_to m ms

-- Apply = Atom {Argument}
abbrev pub apply : MeaningsTree → MeaningTree
apply ps = apply_when (is_none (several_of (part 1 ps))) (part 0 ps) (several_of (part 1 ps))
