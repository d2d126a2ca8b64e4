use Rattle.std.proofs.Common.{arith}
use Rattle.match_cover.specs.View.{row_view}
use Rattle.match_cover.proofs.RecordColumns.{columns_on}
use Rattle.match_cover.proofs.rows.columns_of.Goals as goal

pub loop-i-preserved : goal.loop-i-preserved
loop-i-preserved c =
    columns_on _ _ _ c.args.fields.now.items c.loop-i.i c.index.result.now _ _ (row_view c.args.more.now.value) _
    (omega (arith, c.args.fields.now.ok.0)) c.index.ensures c.in_ok-push.ensures.items c.in_ok-cell_of.ensures c.in_ok-rest.ensures c.loop-i.invariant
