use Rattle.page_bytes.proofs.Putting.{puts_on, puts_off, item_between, item_behind}
use Rattle.page_bytes.specs.Chunks.{chunk_bytes}
use Rattle.page_bytes.proofs.writer.put_chunks.Goals as goal

pub returns-in_err-put_chunk : goal.returns-in_err-put_chunk
returns-in_err-put_chunk g c =
    puts_off _ _ _ _ _ _ _ _ _ _ _ _ _ _ _ _ (item_between chunk_bytes c.args.chunks.now c.loop-chunk.chunk-index c.chunk-item.result c.loop-chunk-test.true c.chunk-item.is)
    c.from_residual.ensures.0 c.loop-chunk.invariant c.in_err-put_chunk.ensures

pub loop-chunk-preserved : goal.loop-chunk-preserved
loop-chunk-preserved g c =
    puts_on _ _ _ _ _ _ _ _ _ _ _ _ _ _ (item_behind chunk_bytes c.args.chunks.now c.loop-chunk.chunk-index c.chunk-item.result c.loop-chunk-test.true c.chunk-item.is)
    c.loop-chunk.invariant c.in_ok-put_chunk.ensures
