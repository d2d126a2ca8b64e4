use Rattle.std.proofs.Common.{◌≡◌, drop}
use Rattle.core_terms.specs.Lists.{node_list}
use Rattle.core_terms.specs.View.{nodes_tree}
use Rattle.judgements.specs.View.{sc_view}
use Rattle.markup_rules.specs.Content.{words_in}
use Rattle.markup_rules.specs.View.{judgements_view}
use Rattle.markup_rules.proofs.content.words_in.Given as goal

abbrev pub invariant-loop-i : goal.invariant-loop-i
invariant-loop-i l =
    words_in (sc_view l.g l.s) (drop l.i (node_list (nodes_tree l.nodes))) (drop l.i (judgements_view l.judged))
    ≡ words_in (sc_view l.g l.s) (node_list (nodes_tree l.nodes)) (judgements_view l.judged)
