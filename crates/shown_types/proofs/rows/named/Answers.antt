use Rattle.std.proofs.Common.{rules, ◌+◌, ◌-◌, map}
use Rattle.con_terms.specs.Trees.{pair_list}
use Rattle.con_terms.specs.View.{pair_tree, pairs_tree}
use Rattle.shown_types.specs.Printed.{by_name}
use Rattle.shown_types.specs.View.{known_view, label}
use Rattle.shown_types.proofs.Placed.{more_sorted}
use Rattle.shown_types.proofs.rows.named.Goals as goal

pub loop-i-preserved : goal.loop-i-preserved
loop-i-preserved c =
    more_sorted (by_name (known_view c.args.known.now)) (pair_list (pairs_tree c.args.pairs.now))
    (c.len-count.result - (c.loop-i.i + 1)) (c.len-count.result - c.loop-i.i) (pair_tree c.at.result.now)
    (map label c.loop-i.fields.items) (map label c.in_ok-fields.fields.items)
    (search rules) (search rules) c.loop-i.invariant (search rules)
