use Rattle.con_terms.specs.View.{con_tree}
use Rattle.node_rules.proofs.LeftInOrder.{row_stays}
use Rattle.node_rules.proofs.operations.on_head.Goals as goal

pub on_row-requires-clause-row : goal.on_row-requires-clause-row
on_row-requires-clause-row c =
    row_stays (con_tree c.args.left) c.head_of_record.result c.in-Some.row c.in-Some.is c.requires.left c.head_of_record.ensures
