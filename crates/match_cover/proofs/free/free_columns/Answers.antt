use Rattle.std.proofs.Common.{◌-◌, arith, ap, sym, ◌∙◌, map}
use Rattle.core_terms.specs.View.{datatype_view}
use Rattle.type_faults.specs.View.{shape_tree}
use Rattle.match_cover.specs.View.{columns_view, rows_view, turn_view}
use Rattle.match_cover.proofs.Turns.{ends_on, goes_on}
use Rattle.match_cover.proofs.free.free_columns.Goals as goal

pub returns-in-Ends : goal.returns-in-Ends
returns-in-Ends c =
    ends_on (map datatype_view c.args.datatypes.now.items) (map shape_tree c.loop-room.shapes.items) c.loop-room.room (c.loop-room.room - 1) (columns_view c.loop-room.now.value) (rows_view c.loop-room.left) _ _
    (omega arith) (ap (turn_view (map datatype_view c.args.datatypes.now.items) (c.loop-room.room - 1)) (sym c.in-Ends.is) ∙ c.in_ok-told.ensures) c.loop-room.invariant

pub loop-room-preserved : goal.loop-room-preserved
loop-room-preserved c =
    goes_on (map datatype_view c.args.datatypes.now.items) c.loop-room.shapes.items c.push.new.self.items c.in-Goes.s c.loop-room.room (c.loop-room.room - 1)
    (columns_view c.loop-room.now.value) (columns_view c.in-Goes.rest.value) (rows_view c.loop-room.left) (rows_view c.in-Goes.behind) _
    (omega arith) c.in_ok-push-in-Goes.ensures.items
    (ap (turn_view (map datatype_view c.args.datatypes.now.items) (c.loop-room.room - 1)) (sym c.in-Goes.is) ∙ c.in_ok-told.ensures) c.loop-room.invariant
