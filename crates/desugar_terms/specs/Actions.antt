-- Actions one after another, and functions.
use Rattle.std.specs.Prelude.{ℕ, false}
use Rattle.plain_tree.specs.Trees.{PatTree, pat, pat_rec, no_pat_fields, ExpTree, exp_fn}
use Rattle.plain_tree.specs.declared.names.Basis.TheVariants as basis
use Rattle.desugar_values.specs.Meanings.{MeaningTree, absent, a_word, several, group, a_kind, a_con, a_pat, an_exp, a_node, MeaningsTree}
use Rattle.desugar_values.specs.Parts.{behind, exp_of, group_of, part, pat_of, start_of}
use Rattle.desugar_types.specs.Parameters.{parameters}
use Rattle.desugar_terms.specs.Made.{call_two, one_parameter, term_at}

-- bind x (fn p => y), where the tree begins at the first place, and the pattern at the third
abbrev pub bound : ℕ → ℕ → ExpTree → ℕ → PatTree → ExpTree → MeaningTree
bound start at x place p y = term_at start (call_two at basis.Bind x (one_parameter place p y))

-- "<-" Body ";" Exp, behind a pattern
abbrev pub bound_rest : ℕ → PatTree → MeaningsTree → MeaningTree
bound_rest start p rest = bound start (start_of (part 0 rest)) (exp_of (part 1 rest)) start p (exp_of (part 3 rest))

-- ExpBind = Pat ExpBindRest: p <- x; y
abbrev pub exp_bind : MeaningsTree → MeaningTree
exp_bind ps = bound_rest (start_of (part 0 ps)) (pat_of (part 0 ps)) (group_of (part 1 ps))

-- the pattern ()
abbrev pub unit_pattern : ℕ → PatTree
unit_pattern at = pat at (pat_rec no_pat_fields false)

-- ";" Exp, behind a term
abbrev pub then_rest : MeaningTree → MeaningsTree → MeaningTree
then_rest m rest =
    bound (start_of m) (start_of (part 0 rest)) (exp_of m) (start_of (part 0 rest))
    (unit_pattern (start_of (part 0 rest))) (exp_of (part 1 rest))

-- a term, and what follows it, if anything does
abbrev pub then_of : MeaningTree → MeaningTree → MeaningTree
then_of m (group rest) = then_rest m rest
then_of m absent = m
then_of m (a_word t) = m
then_of m (several ms) = m
then_of m (a_kind x) = m
then_of m (a_con s c) = m
then_of m (a_pat s p) = m
then_of m (an_exp s e) = m
then_of m (a_node n) = m

-- ExpPlain = Term [ExpThen]: x; y is () <- x; y
abbrev pub exp_plain : MeaningsTree → MeaningTree
exp_plain ps = then_of (part 0 ps) (part 1 ps)

-- TermLambda = "fn" Arg {Arg} "=>" Exp
abbrev pub term_lambda : MeaningsTree → MeaningTree
term_lambda ps = term_at (start_of (part 0 ps)) (exp_fn (parameters (behind ps)) (exp_of (part 4 ps)))
