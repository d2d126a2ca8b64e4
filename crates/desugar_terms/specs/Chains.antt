-- Operators of chains.
use Rattle.std.specs.Prelude.{ℕ, Bool, true, false, List, [], ◌∷◌}
use Rattle.plain_tree.specs.Trees.{exp_chain, LinkTree, link_infix, link_without, link_without_row}
use Rattle.plain_tree.specs.ExpView.{links_from}
use Rattle.plain_tree.specs.declared.names.Infix.{Infix}
use Rattle.plain_tree.specs.declared.names.Infix.TheVariants as op
use Rattle.surface_tree.specs.declared.kind.Kind.{Kind}
use Rattle.surface_tree.specs.declared.kind.Kind.TheVariants as k
use Rattle.surface_tree.specs.declared.token.Token.{Token}
use Rattle.desugar_values.specs.Meanings.{MeaningTree, MeaningsTree, no_meaning, meaning}
use Rattle.desugar_values.specs.Parts.{con_of, exp_of, group_of, part, several_of, start_of, word_of}
use Rattle.desugar_terms.specs.Made.{term_at}

-- the operator that a word is: `||` is Or
abbrev pub operator : Kind → Infix
operator k.DoubleAmpersand = op.And
operator k.Caret = op.Strcat
operator k.DoublePlus = op.Concat
operator k.Plus = op.Plus
operator k.Dash = op.Minus
operator k.Star = op.Times
operator k.Slash = op.Divide
operator k.Percent = op.Mod
operator _ = op.Or

-- an operator at this place, and its right side: `-- c`, `--- c`, or a term behind any other one
abbrev pub link_by : Kind → ℕ → MeaningTree → LinkTree
link_by k.DoubleDash at m = link_without at (con_of m)
link_by k.TripleDash at m = link_without_row at (con_of m)
link_by kind at m = link_infix at (operator kind) (exp_of m)

-- an operator and its right side
abbrev pub link_with : Token → MeaningTree → LinkTree
link_with t m = link_by t.kind t.at m

-- an operator and its right side, as SumPlus = "+" Product
abbrev pub link_of : MeaningsTree → LinkTree
link_of ps = link_with (word_of (part 0 ps)) (part 1 ps)

-- the operators of a chain, each with its right side
abbrev pub links_of : MeaningsTree → List LinkTree
links_of no_meaning = []
links_of (meaning m ms) = link_of (group_of m) ∷ links_of ms

-- whether a repetition has no tree
abbrev pub is_none : MeaningsTree → Bool
is_none no_meaning = true
is_none (meaning m ms) = false

-- a term and what follows it
abbrev pub chain_from : MeaningTree → MeaningsTree → MeaningTree
chain_from m ms = term_at (start_of m) (exp_chain (exp_of m) (links_from (links_of ms)))

-- with nothing behind it the term alone
abbrev pub chain_when : Bool → MeaningTree → MeaningsTree → MeaningTree
chain_when true m ms = m
chain_when false m ms = chain_from m ms

-- a term and what follows it, as Sum = Product {SumMore}
abbrev pub chain : MeaningsTree → MeaningTree
chain ps = chain_when (is_none (several_of (part 1 ps))) (part 0 ps) (several_of (part 1 ps))
