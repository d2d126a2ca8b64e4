use Rattle.std.proofs.Common.{arith}
use Rattle.core_terms.specs.View.{folder_view}
use Rattle.program_forms.proofs.Lists.{kinds_more}
use Rattle.program_forms.proofs.symbols.kinds_differ.Goals as goal

pub loop-i-preserved : goal.loop-i-preserved
loop-i-preserved c = λ rest.
    c.loop-i.invariant (kinds_more folder_view _ c.loop-i.i c.index.result.now
    (omega (arith, c.loop-i-test.true, c.len-i-end.ensures)) c.index.ensures (c.is_other_kind.ensures c.if-not-is_other_kind.false) rest)
