use Rattle.std.proofs.Common.{◌≡◌, ◌+◌, ◌*◌, ◌++◌, max, map, take, drop}
use Rattle.con_terms.specs.View.{con_tree, pair_tree}
use Rattle.con_terms.specs.declared.con.Con.TheViews.{out-Cons, out-Pairs, size-Con, size-Cons, size-Pair, size-Pairs}
use Rattle.row_normal.specs.Ordered.{ordered as in_its_order}
use Rattle.row_normal.proofs.Each.{in_field}
use Rattle.row_normal.proofs.order.+ordered.Given as goal

abbrev pub invariant-ordered_each-loop-i : goal.invariant-ordered_each-loop-i
invariant-ordered_each-loop-i l =
    (map con_tree (out-Cons l.cs).items.items
    ≡ map in_its_order (take l.i (map con_tree (out-Cons l.initial.cs).items.items)) ++ drop l.i (map con_tree (out-Cons l.initial.cs).items.items))
    × goal.unvisited-ordered_each-loop-i l

abbrev pub invariant-ordered_fields-loop-i : goal.invariant-ordered_fields-loop-i
invariant-ordered_fields-loop-i l =
    (map pair_tree (out-Pairs l.fields).items.items
    ≡ map (in_field in_its_order) (take l.i (map pair_tree (out-Pairs l.initial.fields).items.items)) ++ drop l.i (map pair_tree (out-Pairs l.initial.fields).items.items))
    × goal.unvisited-ordered_fields-loop-i l

abbrev pub decreases-ordered : goal.decreases-ordered
decreases-ordered l = 8 * size-Con l.c.now

abbrev pub decreases-ordered_box : goal.decreases-ordered_box
decreases-ordered_box l = 8 * size-Con l.c.now.value + 1

abbrev pub decreases-ordered_both : goal.decreases-ordered_both
decreases-ordered_both l = 8 * max (size-Con l.a.now.value) (size-Con l.b.now.value) + 1

abbrev pub decreases-ordered_three : goal.decreases-ordered_three
decreases-ordered_three l = 8 * max (max (size-Con l.a.now.value) (size-Con l.b.now.value)) (size-Con l.t.now.value) + 1

abbrev pub decreases-ordered_each : goal.decreases-ordered_each
decreases-ordered_each l = 8 * size-Cons l.cs.now + 1

abbrev pub decreases-ordered_fields : goal.decreases-ordered_fields
decreases-ordered_fields l = 8 * size-Pairs l.fields.now + 1

abbrev pub decreases-ordered_field : goal.decreases-ordered_field
decreases-ordered_field l = 8 * size-Pair l.field.now + 1

abbrev pub decreases-ordered_row : goal.decreases-ordered_row
decreases-ordered_row l = 8 * size-Pairs l.fields.now + 2

abbrev pub decreases-ordered_cat : goal.decreases-ordered_cat
decreases-ordered_cat l = 8 * max (size-Con l.a.now.value) (size-Con l.b.now.value) + 5

abbrev pub decreases-cat_pieces : goal.decreases-cat_pieces
decreases-cat_pieces l = 8 * max (size-Con l.a.now.value) (size-Con l.b.now.value) + 4

abbrev pub decreases-row_pieces : goal.decreases-row_pieces
decreases-row_pieces l = 8 * size-Con l.c.now + 3

abbrev pub decreases-own_piece : goal.decreases-own_piece
decreases-own_piece l = 8 * size-Con l.c.now + 2

abbrev pub decreases-literal_pieces : goal.decreases-literal_pieces
decreases-literal_pieces l = 8 * size-Pairs l.fields.now + 2
