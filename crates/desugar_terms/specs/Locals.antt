-- Declarations of values, in a module and in a `let`.
use Rattle.std.specs.Prelude.{ℕ, List, [], ◌∷◌, Option, Some, None}
use Rattle.plain_tree.specs.Trees as tree
use Rattle.plain_tree.specs.Trees.{ConTree, NamedTree, LocalTree, local_val, local_rec}
use Rattle.plain_tree.specs.ExpView.{named_list_from}
use Rattle.surface_tree.specs.declared.kind.Kind.{Kind}
use Rattle.surface_tree.specs.declared.kind.Kind.TheVariants.{KeywordFun, KeywordRec}
use Rattle.surface_tree.specs.declared.token.Token.{Token}
use Rattle.desugar_values.specs.Meanings.{MeaningTree, absent, a_word, several, group, a_kind, a_con, a_pat, an_exp, a_node, MeaningsTree, no_meaning, meaning}
use Rattle.desugar_values.specs.Parts.{behind, con_of, exp_of, group_of, named, part, several_of, word_of}
use Rattle.desugar_terms.specs.Functions.{function}

-- the type of a mark `":" Con`, if one is written
abbrev pub mark_type : MeaningTree → Option ConTree
mark_type (group ps) = Some (con_of (part 1 ps))
mark_type absent = None
mark_type (a_word t) = None
mark_type (several ms) = None
mark_type (a_kind x) = None
mark_type (a_con s c) = None
mark_type (a_pat s p) = None
mark_type (an_exp s e) = None
mark_type (a_node n) = None

-- a name with the rest of its declaration: `[TypeMark] "=" Exp`
abbrev pub plain_value : Token → MeaningsTree → NamedTree
plain_value t ps = tree.named (named t) (mark_type (part 0 ps)) (exp_of (part 2 ps))

-- `lower ":" Con "=" Exp`
abbrev pub typed_value : MeaningsTree → NamedTree
typed_value ps = tree.named (named (word_of (part 0 ps))) (Some (con_of (part 2 ps))) (exp_of (part 4 ps))

-- further values: `"and" lower ":" Con "=" Exp` each
abbrev pub typed_values : MeaningsTree → List NamedTree
typed_values no_meaning = []
typed_values (meaning m ms) = typed_value (behind (group_of m)) ∷ typed_values ms

-- further functions: `"and" lower Arg {Arg} [TypeMark] "=" Exp` each
abbrev pub functions : MeaningsTree → List NamedTree
functions no_meaning = []
functions (meaning m ms) = function (behind (group_of m)) ∷ functions ms

-- `"val" "rec" lower ":" Con "=" Exp {RecMore}` from the name on, at its first word
abbrev pub value_group : ℕ → MeaningsTree → LocalTree
value_group at ps = local_rec at (named_list_from (typed_value ps ∷ typed_values (several_of (part 5 ps))))

-- `"fun" lower Arg {Arg} [TypeMark] "=" Exp {FunMore}` from the name on, at its first word
abbrev pub function_group : ℕ → MeaningsTree → LocalTree
function_group at ps = local_rec at (named_list_from (function ps ∷ functions (several_of (part 6 ps))))

-- a value, by the first word behind `val`: `rec`, or the name
abbrev pub value_by : Kind → ℕ → Token → MeaningsTree → LocalTree
value_by KeywordRec at t ps = value_group at ps
value_by _ at t ps = local_val at (plain_value t ps)

abbrev pub value : ℕ → MeaningsTree → LocalTree
value at ps = value_by (word_of (part 0 ps)).kind at (word_of (part 0 ps)) (behind ps)

-- a declaration of values by its first word, from behind that on
abbrev pub local_by : Kind → ℕ → MeaningsTree → LocalTree
local_by KeywordFun at ps = function_group at ps
local_by _ at ps = value at (group_of (part 0 ps))

abbrev pub local : MeaningsTree → LocalTree
local ps = local_by (word_of (part 0 ps)).kind (word_of (part 0 ps)).at (behind ps)

-- the declaration of values that a tree stands for
abbrev pub local_of : MeaningTree → LocalTree
local_of m = local (group_of m)
