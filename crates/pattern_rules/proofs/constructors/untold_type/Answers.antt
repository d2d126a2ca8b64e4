use Rattle.con_terms.specs.Trees.{basic}
use Rattle.pattern_rules.proofs.Untold.{untold_on}
use Rattle.pattern_rules.proofs.constructors.untold_type.Goals as goal

pub loop-preserved : goal.loop-preserved
loop-preserved c = untold_on (basic c.args.d.number) _ _ c.loop.counter c.loop.invariant c.in_ok-built.ensures
