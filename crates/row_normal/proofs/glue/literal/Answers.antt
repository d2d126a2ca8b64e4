use Rattle.std.proofs.Common.{◌∙◌, ap}
use Rattle.con_terms.specs.Trees.{row}
use Rattle.con_terms.specs.View.{kind_tree, pairs_tree}
use Rattle.row_normal.proofs.Literals.{then_none}
use Rattle.row_normal.proofs.glue.literal.Goals as goal

pub returns : goal.returns
returns c = c.row_of.ensures ∙ ap (row (kind_tree c.args.k.value)) (then_none (pairs_tree c.args.fields))
