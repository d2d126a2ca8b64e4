use Rattle.std.proofs.Common.{map, rules}
use Rattle.core_terms.specs.View.{datatype_view}
use Rattle.site_routes.proofs.Shaped.{datatypes_none}
use Rattle.site_routes.proofs.shapes.shaped_datatypes.Goals as goal

pub loop-i-init : goal.loop-i-init
loop-i-init c = datatypes_none c.args.names.now (map datatype_view c.args.datatypes.now.items) c.in_ok-items.items.items (search rules)
