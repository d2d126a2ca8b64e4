use Rattle.std.proofs.Common.{◌≡◌, drop, None}
use Rattle.con_terms.specs.View.{con_tree}
use Rattle.core_terms.specs.Lists.{node_list}
use Rattle.core_terms.specs.View.{nodes_tree}
use Rattle.type_faults.specs.View.{maybe_fault}
use Rattle.judgements.specs.View.{sc_view}
use Rattle.markup_rules.specs.Nodes.{forward}
use Rattle.markup_rules.specs.View.{judgements_view}
use Rattle.markup_rules.proofs.Loops.{with_done}
use Rattle.markup_rules.proofs.nodes.going_forward.Given as goal

abbrev pub invariant-loop-i : goal.invariant-loop-i
invariant-loop-i l =
    with_done l.found.items (forward (sc_view l.g l.s) (con_tree l.context) (con_tree l.before) (maybe_fault l.told)
    (drop l.i (node_list (nodes_tree l.nodes))) (drop l.i (judgements_view l.judged)))
    ≡ forward (sc_view l.g l.s) (con_tree l.context) (con_tree l.uses) None (node_list (nodes_tree l.nodes)) (judgements_view l.judged)
