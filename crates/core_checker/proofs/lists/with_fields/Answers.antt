use Rattle.std.proofs.Common.{ap, map}
use Rattle.core_terms.specs.Lists.{field_list, field_tree}
use Rattle.core_terms.specs.View.{fields_tree}
use Rattle.judgements.specs.View.{judged_tree, sc_view}
use Rattle.node_rules.specs.View.{row_tree}
use Rattle.core_checker.proofs.Steps.{fields_turn}
use Rattle.core_checker.proofs.lists.with_fields.Goals as goal

pub loop-j-preserved : goal.loop-j-preserved
loop-j-preserved c =
    fields_turn (sc_view c.args.g.now c.args.s.now) (map judged_tree c.loop-j.j-iterator.rest.items) (map judged_tree c.next.new.self.rest.items) (judged_tree c.in-Some.j)
    (field_list (fields_tree c.args.fs.now)) c.loop-j.i (field_tree c.at.result.now) (row_tree c.loop-j.now) (row_tree c.in_ok-now.now) _
    (ap (map judged_tree) c.in-Some.ensures.steps.0) c.at.ensures c.in_ok-now.ensures c.loop-j.invariant
