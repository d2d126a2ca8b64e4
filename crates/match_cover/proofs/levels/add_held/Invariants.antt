use Rattle.std.proofs.Common.{◌≡◌, drop, map}
use Rattle.con_terms.specs.Trees.{con_list}
use Rattle.con_terms.specs.View.{con_tree, cons_tree}
use Rattle.core_terms.specs.View.{constructor_view}
use Rattle.match_cover.specs.Levels.{add_held}
use Rattle.match_cover.proofs.levels.add_held.Given as goal

abbrev pub invariant-loop-j : goal.invariant-loop-j
invariant-loop-j l =
    add_held (con_list (cons_tree l.args)) (map constructor_view (drop l.j l.d.constructors.items.items)) (map con_tree l.others.items)
    ≡ add_held (con_list (cons_tree l.args)) (map constructor_view l.d.constructors.items.items) (map con_tree l.fn.others.items)
