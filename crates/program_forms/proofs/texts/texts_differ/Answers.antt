use Rattle.std.proofs.Common.{sym, arith}
use Rattle.program_forms.proofs.Tables.{added}
use Rattle.program_forms.proofs.texts.texts_differ.Goals as goal

pub loop-i-preserved : goal.loop-i-preserved
loop-i-preserved c =
    added _ _ _ c.loop-i.i _ _ c.loop-i.invariant
    (omega (arith, c.loop-i-test.true, c.len-i-end.ensures))
    c.at.ensures c.as_str-text.ensures (sym c.in-None.ensures.exact) c.in_ok-intern.ensures.grown
