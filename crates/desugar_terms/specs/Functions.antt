-- Functions with a name: `lower Arg {Arg} [TypeMark] "=" Exp`.
use Rattle.std.specs.Prelude.{None}
use Rattle.plain_tree.specs.Trees as tree
use Rattle.plain_tree.specs.Trees.{ExpTree, exp, exp_fn, exp_typed, NamedTree}
use Rattle.desugar_values.specs.Meanings.{MeaningTree, absent, a_word, several, group, a_kind, a_con, a_pat, an_exp, a_node, MeaningsTree}
use Rattle.desugar_values.specs.Parts.{behind, con_of, exp_of, named, part, start_of, word_of}
use Rattle.desugar_types.specs.Parameters.{arg_start, parameters}

-- a term with the type of a mark `":" Con`, at its colon
abbrev pub typed : MeaningsTree → ExpTree → ExpTree
typed ps e = exp (start_of (part 0 ps)) (exp_typed e (con_of (part 1 ps)))

-- a body with the type that is written for it, if one is
abbrev pub body : MeaningTree → ExpTree → ExpTree
body (group ps) e = typed ps e
body absent e = e
body (a_word t) e = e
body (several ms) e = e
body (a_kind x) e = e
body (a_con s c) e = e
body (a_pat s p) e = e
body (an_exp s x) e = e
body (a_node n) e = e

-- a name without a written type, whose term is a function that stands where its first parameter does
abbrev pub function : MeaningsTree → NamedTree
function ps =
    tree.named (named (word_of (part 0 ps))) None
    (exp (arg_start (part 1 ps)) (exp_fn (parameters (behind ps)) (body (part 3 ps) (exp_of (part 5 ps)))))

-- the parts behind a function
abbrev pub behind_function : MeaningsTree → MeaningsTree
behind_function ps = behind (behind (behind (behind (behind (behind ps)))))
