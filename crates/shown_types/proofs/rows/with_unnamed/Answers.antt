use Rattle.std.proofs.Common.{rules, ◌+◌, ◌++◌, map}
use Rattle.con_terms.specs.Trees.{pair_list}
use Rattle.con_terms.specs.View.{pair_tree, pairs_tree}
use Rattle.shown_types.specs.Order.{unnamed}
use Rattle.shown_types.specs.Printed.{by_name}
use Rattle.shown_types.specs.View.{known_view, pair_now}
use Rattle.shown_types.proofs.Placed.{more_unnamed}
use Rattle.shown_types.proofs.rows.with_unnamed.Goals as goal

pub loop-i-preserved : goal.loop-i-preserved
loop-i-preserved c =
    more_unnamed (by_name (known_view c.args.known.now)) (pair_list (pairs_tree c.args.pairs.now)) c.loop-i.i (c.loop-i.i + 1) (pair_tree c.at.result.now)
    (map pair_now c.args.fields.items ++ unnamed (map (by_name (known_view c.args.known.now)) (pair_list (pairs_tree c.args.pairs.now))))
    (map pair_now c.loop-i.made.items) (map pair_now c.in_ok-made.made.items)
    (search rules) (search rules) c.loop-i.invariant (search rules)
