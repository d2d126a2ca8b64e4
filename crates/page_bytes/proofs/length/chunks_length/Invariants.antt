use Rattle.std.proofs.Common.{◌≡◌, take}
use Rattle.std.specs.List.{flat_map}
use Rattle.page_bytes.specs.Chunks.{chunk_bytes}
use Rattle.page_bytes.specs.Lengths.{length_told}
use Rattle.page_bytes.proofs.length.chunks_length.Given as goal

abbrev pub invariant-loop-chunk : goal.invariant-loop-chunk
invariant-loop-chunk l = l.total ≡ length_told (flat_map chunk_bytes (take l.chunk-index l.chunks))
