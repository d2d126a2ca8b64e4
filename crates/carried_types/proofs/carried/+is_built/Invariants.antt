use Rattle.std.proofs.Common.{◌≡◌, ◌+◌, ◌*◌, map, drop}
use Rattle.con_terms.specs.Trees.{con_list}
use Rattle.con_terms.specs.View.{con_tree, cons_from, pair_tree, pairs_from}
use Rattle.con_terms.specs.declared.con.Con.TheViews.{out-Cons, out-Pairs}
use Rattle.core_terms.specs.View.{datatype_view}
use Rattle.carried_types.specs.Built.{built, all_by, fields_by}
use Rattle.carried_types.specs.View.{carriers_view}
use Rattle.carried_types.proofs.carried.+is_built.Given as goal

abbrev pub decreases-is_built : goal.decreases-is_built
decreases-is_built l = 8 * l.room

abbrev pub decreases-is_built_normal : goal.decreases-is_built_normal
decreases-is_built_normal l = 8 * l.room + 7

abbrev pub decreases-is_built_row : goal.decreases-is_built_row
decreases-is_built_row l = 8 * l.room + 6

abbrev pub decreases-is_built_seen : goal.decreases-is_built_seen
decreases-is_built_seen l = 8 * l.room + 6

abbrev pub decreases-are_built : goal.decreases-are_built
decreases-are_built l = 8 * l.room + 5

abbrev pub decreases-is_built_field : goal.decreases-is_built_field
decreases-is_built_field l = 8 * l.room + 1

abbrev pub decreases-are_built_fields : goal.decreases-are_built_fields
decreases-are_built_fields l = 8 * l.room + 5

abbrev pub invariant-are_built-loop-i : goal.invariant-are_built-loop-i
invariant-are_built-loop-i l =
    all_by (built l.room (map datatype_view l.datatypes.items) (carriers_view l.carriers) l.parameters) (con_list (cons_from (map con_tree (out-Cons l.ts).items.items)))
    ≡ all_by (built l.room (map datatype_view l.datatypes.items) (carriers_view l.carriers) l.parameters) (con_list (cons_from (map con_tree (drop l.i (out-Cons l.ts).items.items))))

abbrev pub invariant-are_built_fields-loop-i : goal.invariant-are_built_fields-loop-i
invariant-are_built_fields-loop-i l =
    fields_by (built l.room (map datatype_view l.datatypes.items) (carriers_view l.carriers) l.parameters) (pairs_from (map pair_tree (out-Pairs l.ps).items.items))
    ≡ fields_by (built l.room (map datatype_view l.datatypes.items) (carriers_view l.carriers) l.parameters) (pairs_from (map pair_tree (drop l.i (out-Pairs l.ps).items.items)))
