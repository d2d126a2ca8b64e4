use Rattle.std.proofs.Common.{◌≡◌, ◌-◌, map, drop}
use Rattle.con_terms.specs.Trees.{pair_list}
use Rattle.con_terms.specs.View.{pairs_tree}
use Rattle.shown_types.specs.Order.{sorted}
use Rattle.shown_types.specs.Printed.{by_name}
use Rattle.shown_types.specs.View.{known_view, label}
use Rattle.shown_types.proofs.rows.named.Given as goal

abbrev pub invariant-loop-i : goal.invariant-loop-i
invariant-loop-i l =
    map label l.fields.items ≡ sorted (map (by_name (known_view l.known)) (drop (l.count - l.i) (pair_list (pairs_tree l.pairs))))
