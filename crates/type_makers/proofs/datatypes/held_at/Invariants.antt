use Rattle.std.proofs.Common.{◌≡◌, ◌≤◌, length, take}
use Rattle.con_terms.specs.Trees.{con_list}
use Rattle.con_terms.specs.View.{con_tree, cons_tree}
use Rattle.core_terms.specs.Datatypes.{reversed, put_all, held_at}
use Rattle.type_makers.proofs.datatypes.held_at.Given as goal

abbrev pub invariant-loop-left : goal.invariant-loop-left
invariant-loop-left l =
    (put_all (reversed (take l.left (con_list (cons_tree l.fn.arguments)))) (con_tree l.built) ≡ held_at (con_list (cons_tree l.fn.arguments)) (con_tree l.fn.held))
    × (l.left ≤ length (con_list (cons_tree l.fn.arguments)))

abbrev pub decreases-loop-left : goal.decreases-loop-left
decreases-loop-left l = l.left
