use Rattle.std.proofs.Common.{rules, arith}
use Rattle.program_forms.proofs.Tables.{taken}
use Rattle.program_forms.proofs.texts.begins_with.Goals as goal

pub loop-i-preserved : goal.loop-i-preserved
loop-i-preserved c =
    taken _ _ c.loop-i.i _ _ c.loop-i.invariant
    (omega (arith, c.loop-i-test.true, c.len-i-end.ensures, c.if-len.false, c.len.ensures, c.len-2.ensures))
    (omega (arith, c.loop-i-test.true, c.len-i-end.ensures))
    c.at.ensures c.at-in-loop-i.ensures (search rules)
