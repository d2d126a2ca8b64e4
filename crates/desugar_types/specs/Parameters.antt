-- Parameters of functions.
use Rattle.std.specs.Prelude.{ℕ, true, false, List, [], ◌∷◌}
use Rattle.con_terms.specs.Trees.{types}
use Rattle.plain_tree.specs.Trees.{con, con_name, pat, pat_bare, ArgTree, arg_pat, arg_con, arg_guard}
use Rattle.plain_tree.specs.declared.names.BasisBuilder.TheVariants as basis
use Rattle.plain_tree.specs.declared.names.Builder.TheVariants as builder
use Rattle.plain_tree.specs.declared.names.Word.{Word}
use Rattle.surface_tree.specs.declared.kind.Kind.{Kind}
use Rattle.surface_tree.specs.declared.kind.Kind.TheVariants.{LowerName, RightBracket, DoubleColon, TripleColon}
use Rattle.desugar_values.specs.Meanings.{MeaningTree, absent, a_word, several, group, a_kind, a_con, a_pat, an_exp, a_node, MeaningsTree, no_meaning, meaning}
use Rattle.desugar_values.specs.Parts.{first, behind, part, start_of, named, several_of, group_of, kind_of, con_of}
use Rattle.desugar_values.specs.Words.{bare}
use Rattle.desugar_types.specs.Leading.{leading}
use Rattle.desugar_types.specs.Tails.{short_tails}

-- the parameter `[]`, which is a pattern
abbrev pub empty_list : ℕ → ArgTree
empty_list at = arg_pat (pat at (pat_bare (builder.Basis basis.Nil)))

-- the guard `[x .. ~ c]`, which begins with this name
abbrev pub lower_guard : ℕ → Word → MeaningsTree → ArgTree
lower_guard at name rest =
    arg_guard at (short_tails name.at (con name.at (con_name (bare name.text))) rest) (con_of (part 4 rest))

-- a parameter that begins with `[` and a name, by the word behind the name: a kind that isn't written is Type
abbrev pub lower_by : Kind → ℕ → Word → MeaningsTree → ArgTree
lower_by RightBracket at name rest = arg_con at false false name types
lower_by DoubleColon at name rest = arg_con at false true name (kind_of (part 1 rest))
lower_by TripleColon at name rest = arg_con at true true name (kind_of (part 1 rest))
lower_by _ at name rest = lower_guard at name rest

abbrev pub arg_lower : ℕ → Word → MeaningsTree → ArgTree
arg_lower at name rest = lower_by (leading rest) at name rest

-- a parameter that begins with `[` and a word, by the word's kind: behind a name stands the group of what follows it
abbrev pub word_by : Kind → ℕ → Word → MeaningTree → ArgTree
word_by LowerName at name rest = arg_lower at name (group_of rest)
word_by _ at name rest = empty_list at

-- a parameter that begins with `[`, by what stands behind the bracket
abbrev pub bracket_by : ℕ → MeaningTree → MeaningsTree → ArgTree
bracket_by at (a_con s c) more = arg_guard at c (con_of (part 1 more))
bracket_by at (a_word t) more = word_by t.kind at (named t) (first more)
bracket_by at absent more = empty_list at
bracket_by at (several ms) more = empty_list at
bracket_by at (group ms) more = empty_list at
bracket_by at (a_kind x) more = empty_list at
bracket_by at (a_pat s p) more = empty_list at
bracket_by at (an_exp s e) more = empty_list at
bracket_by at (a_node n) more = empty_list at

abbrev pub arg_bracket : ℕ → MeaningsTree → ArgTree
arg_bracket at rest = bracket_by at (first rest) (behind rest)

-- a parameter by its first part, a pattern or `[`, and what stands behind the bracket
abbrev pub arg_by : MeaningTree → MeaningTree → ArgTree
arg_by (a_pat s p) rest = arg_pat p
arg_by (a_word t) rest = arg_bracket t.at (group_of rest)
arg_by absent rest = arg_bracket 0 (group_of rest)
arg_by (several ms) rest = arg_bracket 0 (group_of rest)
arg_by (group ms) rest = arg_bracket 0 (group_of rest)
arg_by (a_kind x) rest = arg_bracket 0 (group_of rest)
arg_by (a_con s c) rest = arg_bracket s (group_of rest)
arg_by (an_exp s e) rest = arg_bracket s (group_of rest)
arg_by (a_node n) rest = arg_bracket 0 (group_of rest)

-- the parameter that the parts of an `Arg` are
abbrev pub arg_from : MeaningsTree → ArgTree
arg_from ps = arg_by (part 0 ps) (part 1 ps)

abbrev pub arg_of : MeaningTree → ArgTree
arg_of m = arg_from (group_of m)

-- the byte at which a parameter begins
abbrev pub arg_start : MeaningTree → ℕ
arg_start m = start_of (first (group_of m))

abbrev pub args_of : MeaningsTree → List ArgTree
args_of no_meaning = []
args_of (meaning m ms) = arg_of m ∷ args_of ms

-- `Arg {Arg}`
abbrev pub parameters : MeaningsTree → List ArgTree
parameters ps = arg_of (part 0 ps) ∷ args_of (several_of (part 1 ps))
