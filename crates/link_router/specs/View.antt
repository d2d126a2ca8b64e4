-- What the types of the program stand for.
use Rattle.std.specs.Prelude.{Option, Some, None, map}
use Rattle.table_rows.specs.Wires.{Wr}
use Rattle.table_rows.specs.View.{wire_tree, wires_tree, arguments_tree, maybe_shape, datatypes_view}
use Rattle.table_rows.specs.declared.wire.Wire.{Wire}
use Rattle.link_router.specs.Calls.{Ent, Rts, Cl, Asked}
use Rattle.link_router.specs.declared.routes.Entry.{Entry}
use Rattle.link_router.specs.declared.routes.Routes.{Routes}
use Rattle.link_router.specs.declared.call.Call.{Call}
use Rattle.link_router.specs.declared.ask.Ask.{Ask}

abbrev pub entry_view : Entry → Ent
entry_view e = record { name = e.name; arguments = arguments_tree e.arguments; form = maybe_shape e.form }

abbrev pub routes_view : Routes → Rts
routes_view r = record { datatypes = datatypes_view r.datatypes; entries = map entry_view r.entries.items }

abbrev pub maybe_wire : Option Wire → Option Wr
maybe_wire None = None
maybe_wire (Some w) = Some (wire_tree w)

abbrev pub call_view : Call → Cl
call_view c = record { entry = c.entry; wires = wires_tree c.wires; form = maybe_wire c.form; cookie = c.cookie }

abbrev pub ask_view : Ask → Asked
ask_view a = record { post = a.post; path = a.path; body = a.body; cookie = a.cookie }
