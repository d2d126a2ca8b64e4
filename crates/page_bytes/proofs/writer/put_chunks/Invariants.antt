use Rattle.std.proofs.Common.{take, Ok}
use Rattle.std.specs.List.{flat_map}
use Rattle.page_bytes.specs.Chunks.{chunk_bytes}
use Rattle.page_bytes.specs.declared.fault.PageFault.{PageFault}
use Rattle.page_bytes.specs.Puts.{Puts}
use Rattle.page_bytes.proofs.writer.put_chunks.Given as goal

abbrev pub invariant-loop-chunk : goal.invariant-loop-chunk
invariant-loop-chunk g l =
    Puts {E = PageFault} (Ok tt) (g.K.Sink.wrote l.initial.sink) (g.K.Sink.wrote l.sink) l.initial.held.items l.held.items
    (g.K.Sink.faults l.initial.sink) (g.K.Sink.faults l.sink) (flat_map chunk_bytes (take l.chunk-index l.chunks))
