use Rattle.con_terms.specs.View.{con_tree}
use Rattle.judgements.specs.View.{cons_view}
use Rattle.node_rules.proofs.LeftInOrder.{left_glues}
use Rattle.node_rules.proofs.operations.row_cut_of.Goals as goal

pub row_cut-requires : goal.row_cut-requires
row_cut-requires c =
    left_glues (con_tree c.args.row) (cons_view c.in_ok-out.out) (cons_view c.args.pieces) c.in_ok-left.left c.requires.row c.requires.pieces c.in_ok-left.ensures
