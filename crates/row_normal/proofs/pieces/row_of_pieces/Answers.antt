use Rattle.std.proofs.Common.{◌∙◌, ap, sym}
use Rattle.con_terms.proofs.Lists.{cons_listed}
use Rattle.con_terms.specs.View.{kind_tree}
use Rattle.row_normal.specs.Ordered.{joined}
use Rattle.row_normal.proofs.Literals.{if_ok}
use Rattle.row_normal.proofs.pieces.row_of_pieces.Goals as goal

pub returns : goal.returns
returns c = if_ok c.concatenated.result _ _ (λ d h. h ∙ ap (joined (kind_tree c.args.kind)) (sym (cons_listed c.args.pieces))) c.concatenated.ensures
