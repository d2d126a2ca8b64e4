use Rattle.std.proofs.Common.{[]}
use Rattle.table_rows.specs.View.{shape_tree, datatypes_view}
use Rattle.link_router.specs.Amid.{LeadsTo, wants}
use Rattle.link_router.specs.Scoped.{amid, stack_view}
use Rattle.link_router.proofs.reader.read_value.Given as goal

abbrev pub invariant-loop : goal.invariant-loop
invariant-loop l = LeadsTo (datatypes_view l.datatypes) (wants [] (shape_tree l.shape) l.initial.pieces) (amid l.step (stack_view l.stack) l.pieces)
