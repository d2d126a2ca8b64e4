use Rattle.std.proofs.Common.{arith}
use Rattle.core_terms.specs.View.{datatype_view}
use Rattle.match_cover.proofs.Before.{before_on}
use Rattle.match_cover.proofs.declared.datatypes_before.Goals as goal
use Rattle.std.proofs.Common.{map}

pub loop-i-preserved : goal.loop-i-preserved
loop-i-preserved c = (
  before_on c.args.decls.now.items.items c.loop-i.i c.index.result.now (map datatype_view c.loop-i.all.items) (map datatype_view c.add_datatype.new.all.items)
      (omega (arith, c.args.decls.now.items.ok.0)) c.index.ensures c.loop-i.invariant.0 c.in_ok-add_datatype.ensures,
  omega arith,
)
