use Rattle.std.proofs.Common.{map}
use Rattle.con_terms.specs.View.{con_tree}
use Rattle.core_terms.specs.View.{datatype_view}
use Rattle.carried_types.specs.View.{carriers_view}
use Rattle.carried_types.proofs.Marks.{carried_if_ok}
use Rattle.carried_types.proofs.carried.can_carry.Goals as goal

pub returns-clause-decides : goal.returns-clause-decides
returns-clause-decides c =
    carried_if_ok (map datatype_view c.args.datatypes.now.items) (carriers_view c.args.carriers.now) (con_tree c.args.t.now) c.is_built.result c.is_built.ensures
