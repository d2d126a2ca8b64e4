use Rattle.std.proofs.Common.{◌≡◌, ◌++◌, map, drop}
use Rattle.con_terms.specs.Trees.{pair_list}
use Rattle.con_terms.specs.View.{pairs_tree}
use Rattle.shown_types.specs.Order.{unnamed}
use Rattle.shown_types.specs.Printed.{by_name}
use Rattle.shown_types.specs.View.{known_view, pair_now}
use Rattle.shown_types.proofs.rows.with_unnamed.Given as goal

abbrev pub invariant-loop-i : goal.invariant-loop-i
invariant-loop-i l =
    map pair_now l.initial.made.items ++ unnamed (map (by_name (known_view l.known)) (pair_list (pairs_tree l.pairs)))
    ≡ map pair_now l.made.items ++ unnamed (map (by_name (known_view l.known)) (drop l.i (pair_list (pairs_tree l.pairs))))
