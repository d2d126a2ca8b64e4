use Rattle.con_terms.specs.View.{con_tree}
use Rattle.judgements.specs.View.{cons_view}
use Rattle.node_rules.proofs.LeftInOrder.{taken_glues}
use Rattle.node_rules.proofs.operations.cut_of.Goals as goal

pub cut-requires : goal.cut-requires
cut-requires c =
    taken_glues (con_tree c.args.row) (con_tree c.args.n) (cons_view c.args.pieces) c.in_ok-field.field c.requires.row c.requires.pieces c.in_ok-field.ensures
