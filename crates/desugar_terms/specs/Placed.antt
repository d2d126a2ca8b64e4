-- Terms at the bytes at which their trees begin.
use Rattle.std.specs.Prelude.{ℕ}
use Rattle.plain_tree.specs.Trees.{exp, FormTree}
use Rattle.desugar_values.specs.Meanings.{MeaningTree, an_exp}

-- a term that begins where its tree does
abbrev pub a_term : ℕ → FormTree → MeaningTree
a_term at form = an_exp at (exp at form)
