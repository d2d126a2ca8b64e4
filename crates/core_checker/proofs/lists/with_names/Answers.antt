use Rattle.std.proofs.Common.{ap, map}
use Rattle.core_terms.specs.Lists.{name_list}
use Rattle.core_terms.specs.View.{named_list_tree, named_tree}
use Rattle.judgements.specs.View.{judged_tree, sc_view}
use Rattle.node_rules.specs.View.{found_tree}
use Rattle.core_checker.proofs.Steps.{names_turn}
use Rattle.core_checker.proofs.lists.with_names.Goals as goal

pub loop-j-preserved : goal.loop-j-preserved
loop-j-preserved c =
    names_turn (sc_view c.args.g.now c.args.s.now) (map judged_tree c.loop-j.j-iterator.rest.items) (map judged_tree c.next.new.self.rest.items) (judged_tree c.in-Some.j)
    (name_list (named_list_tree c.args.ns.now)) c.loop-j.i (named_tree c.at.result.now) (found_tree c.loop-j.now) (found_tree c.in_ok-now.now) _
    (ap (map judged_tree) c.in-Some.ensures.steps.0) c.at.ensures c.in_ok-now.ensures c.loop-j.invariant
