use Rattle.std.proofs.Common.{◌<◌, length, arith}
use Rattle.unbound_names.proofs.Modules.{known_more}
use Rattle.unbound_names.proofs.programs.known_before.Goals as goal

pub loop-i-preserved : goal.loop-i-preserved
loop-i-preserved c =
    known_more c.args.modules.now c.args.trees.now c.loop-i.i c.index-trees-i.result _ _ _
    (omega (arith, c.loop-i-test.true, c.requires)) c.loop-i.invariant
    c.in_ok-declare_all.ensures c.in_ok-begin-2.ensures
