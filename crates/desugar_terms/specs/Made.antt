-- Values of the basis with arguments, and functions of one parameter.
use Rattle.std.specs.Prelude.{ℕ, [], ◌∷◌}
use Rattle.plain_tree.specs.Trees.{PatTree, arg_pat, ExpTree, exp, FormTree, exp_basis, exp_call, exp_fn, item_term, no_items, more_items}
use Rattle.plain_tree.specs.declared.names.Basis.{Basis}
use Rattle.desugar_values.specs.Meanings.{MeaningTree, an_exp}

-- a term that stands where its tree begins
abbrev pub term_at : ℕ → FormTree → MeaningTree
term_at at form = an_exp at (exp at form)

-- a value of the basis
abbrev pub basis_at : ℕ → Basis → ExpTree
basis_at at value = exp at (exp_basis value)

-- a value of the basis, at its place, with an argument
abbrev pub call_one : ℕ → Basis → ExpTree → FormTree
call_one at value x = exp_call (basis_at at value) (more_items (item_term x) no_items)

-- a value of the basis, at its place, with two arguments
abbrev pub call_two : ℕ → Basis → ExpTree → ExpTree → FormTree
call_two at value x y = exp_call (basis_at at value) (more_items (item_term x) (more_items (item_term y) no_items))

-- fn p => e
abbrev pub one_parameter : ℕ → PatTree → ExpTree → ExpTree
one_parameter at p e = exp at (exp_fn (arg_pat p ∷ []) e)
