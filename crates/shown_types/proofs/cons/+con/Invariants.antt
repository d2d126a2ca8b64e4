use Rattle.std.proofs.Common.{◌≡◌, ◌+◌, ◌*◌, true, map, drop}
use Rattle.con_terms.specs.View.{con_tree, cons_tree, cons_from, pairs_tree}
use Rattle.shown_types.specs.Order.{in_order}
use Rattle.shown_types.specs.Printed.{put_cons, put_fields, put_field, put_row}
use Rattle.shown_types.specs.View.{known_view, pair_now}
use Rattle.shown_types.proofs.cons.+con.Given as goal

abbrev pub decreases-put_con : goal.decreases-put_con
decreases-put_con l = 6 * l.room

abbrev pub decreases-put_arrow : goal.decreases-put_arrow
decreases-put_arrow l = 6 * l.room + 5

abbrev pub decreases-put_cat : goal.decreases-put_cat
decreases-put_cat l = 6 * l.room + 5

abbrev pub decreases-put_app : goal.decreases-put_app
decreases-put_app l = 6 * l.room + 5

abbrev pub decreases-put_poly : goal.decreases-put_poly
decreases-put_poly l = 6 * l.room + 5

abbrev pub decreases-put_lambda : goal.decreases-put_lambda
decreases-put_lambda l = 6 * l.room + 5

abbrev pub decreases-put_guarded : goal.decreases-put_guarded
decreases-put_guarded l = 6 * l.room + 5

abbrev pub decreases-put_record : goal.decreases-put_record
decreases-put_record l = 6 * l.room + 5

abbrev pub decreases-put_component : goal.decreases-put_component
decreases-put_component l = 6 * l.room + 5

abbrev pub decreases-put_tuple : goal.decreases-put_tuple
decreases-put_tuple l = 6 * l.room + 5

abbrev pub decreases-put_cons : goal.decreases-put_cons
decreases-put_cons l = 6 * l.room + 4

abbrev pub decreases-put_row : goal.decreases-put_row
decreases-put_row l = 6 * l.room + 5

abbrev pub decreases-put_fields : goal.decreases-put_fields
decreases-put_fields l = 6 * l.room + 4

abbrev pub decreases-put_field : goal.decreases-put_field
decreases-put_field l = 6 * l.room + 3

abbrev pub decreases-put_name : goal.decreases-put_name
decreases-put_name l = 6 * l.room + 2

abbrev pub invariant-put_cons-loop-i : goal.invariant-put_cons-loop-i
invariant-put_cons-loop-i l =
    put_cons (known_view l.known) l.called true (cons_tree l.cons) l.initial.line
    ≡ put_cons (known_view l.known) l.called l.first (cons_from (map con_tree (drop l.i l.cons.items.items))) l.line

abbrev pub invariant-put_fields-loop-i : goal.invariant-put_fields-loop-i
invariant-put_fields-loop-i l =
    put_fields true (in_order (put_row (known_view l.known) l.called (pairs_tree l.pairs))) l.initial.line
    ≡ put_fields l.first (map (put_field (known_view l.known) l.called) (map pair_now (drop l.i l.fields.items))) l.line
