use Rattle.std.proofs.Common.{◌≡◌, ◌≤◌, ◌++◌, ℕ, List, drop}
use Rattle.xml_trees.specs.PieceText.{pieces_bytes}
use Rattle.page_bytes.specs.Lengths.{length_told}
use Rattle.page_bytes.proofs.length.pieces_length.Given as goal

-- what is counted, and what the pieces that are left give, is what all pieces give
abbrev pub invariant-loop-piece : goal.invariant-loop-piece
invariant-loop-piece l = record {
  done : (bytes : List ℕ) × (bytes ++ pieces_bytes l.hidden (drop l.piece-index l.pieces) ≡ pieces_bytes 0 l.pieces) × (l.total ≡ length_told bytes);
  few : l.hidden ≤ l.piece-index;
}
