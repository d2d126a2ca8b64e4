use Rattle.std.proofs.Common.{◌≡◌, ◌-◌, drop, length}
use Rattle.core_terms.specs.Lists.{node_list}
use Rattle.core_terms.specs.View.{nodes_tree, maybe_con}
use Rattle.type_faults.specs.View.{maybe_fault}
use Rattle.judgements.specs.View.{sc_view}
use Rattle.markup_rules.specs.Nodes.{backward, behind_tree}
use Rattle.markup_rules.proofs.Loops.{bk}
use Rattle.markup_rules.proofs.nodes.going_backward.Given as goal

abbrev pub invariant-loop-done : goal.invariant-loop-done
invariant-loop-done l =
    backward (sc_view l.g l.s) (maybe_fault l.fn.forward.told)
    (drop (length (node_list (nodes_tree l.nodes)) - l.done) (node_list (nodes_tree l.nodes)))
    (drop (length (node_list (nodes_tree l.nodes)) - l.done) l.found.items)
    ≡ bk (maybe_fault l.own) (behind_tree (maybe_con l.behind))
