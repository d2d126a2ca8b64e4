use Rattle.std.proofs.Common.{◌≡◌, ◌≤◌, ◌++◌, ℕ, List, drop, Ok}
use Rattle.xml_trees.specs.PieceText.{pieces_bytes}
use Rattle.page_bytes.specs.declared.fault.PageFault.{PageFault}
use Rattle.page_bytes.specs.Puts.{Puts}
use Rattle.page_bytes.proofs.writer.put_pieces.Given as goal

-- what is put out, and what the pieces that are left give, is what all pieces give
abbrev pub invariant-loop-piece : goal.invariant-loop-piece
invariant-loop-piece g l = record {
  done : (bytes : List ℕ) × (bytes ++ pieces_bytes l.hidden (drop l.piece-index l.pieces) ≡ pieces_bytes 0 l.pieces)
      × Puts {E = PageFault} (Ok tt) (g.K.Sink.wrote l.initial.sink) (g.K.Sink.wrote l.sink) l.initial.held.items l.held.items
      (g.K.Sink.faults l.initial.sink) (g.K.Sink.faults l.sink) bytes;
  few : l.hidden ≤ l.piece-index;
}
