-- `case` and `if`.
use Rattle.std.specs.Prelude.{ℕ, List, [], ◌∷◌}
use Rattle.plain_tree.specs.Trees.{pat, pat_bare, ExpTree, exp_case, BranchTree, branch, no_branches, more_branches}
use Rattle.plain_tree.specs.ExpView.{branches_from}
use Rattle.plain_tree.specs.declared.names.BasisBuilder.{BasisBuilder}
use Rattle.plain_tree.specs.declared.names.BasisBuilder.TheVariants as value
use Rattle.plain_tree.specs.declared.names.Builder.TheVariants as builder
use Rattle.desugar_values.specs.Meanings.{MeaningTree, MeaningsTree, no_meaning, meaning}
use Rattle.desugar_values.specs.Parts.{exp_of, group_of, part, pat_of, several_of, start_of}
use Rattle.desugar_terms.specs.Made.{term_at}

-- Pat "=>" Exp
abbrev pub branch_of : MeaningTree → MeaningTree → BranchTree
branch_of p e = branch (start_of p) (pat_of p) (exp_of e)

-- CaseMore = "|" Pat "=>" Exp
abbrev pub more_branch : MeaningsTree → BranchTree
more_branch ps = branch_of (part 1 ps) (part 3 ps)

-- {CaseMore}
abbrev pub branches_of : MeaningsTree → List BranchTree
branches_of no_meaning = []
branches_of (meaning m ms) = more_branch (group_of m) ∷ branches_of ms

-- TermCase = "case" Exp "of" [CaseBar] Pat "=>" Exp {CaseMore}
abbrev pub term_case : MeaningsTree → MeaningTree
term_case ps =
    term_at (start_of (part 0 ps))
    (exp_case (exp_of (part 1 ps)) (branch_of (part 4 ps) (part 6 ps))
    (branches_from (branches_of (several_of (part 7 ps)))))

-- the branch of a truth value, at the word that leads to it
abbrev pub choice : ℕ → BasisBuilder → ExpTree → BranchTree
choice at b e = branch at (pat at (pat_bare (builder.Basis b))) e

-- TermIf = "if" Exp "then" Exp "else" Term, BodyIf likewise: a `case` on True and False
abbrev pub term_if : MeaningsTree → MeaningTree
term_if ps =
    term_at (start_of (part 0 ps))
    (exp_case (exp_of (part 1 ps)) (choice (start_of (part 2 ps)) value.True (exp_of (part 3 ps)))
    (more_branches (choice (start_of (part 4 ps)) value.False (exp_of (part 5 ps))) no_branches))
