use Rattle.std.proofs.Common.{arith}
use Rattle.page_bytes.proofs.Lengths.{told_then}
use Rattle.page_bytes.proofs.Pieces.{piece_behind}
use Rattle.page_bytes.proofs.length.pieces_length.Goals as goal

pub loop-piece-preserved : goal.loop-piece-preserved
loop-piece-preserved c =
    let done = c.loop-piece.invariant.done in record {
      done = (
        _,
        piece_behind c.args.pieces.now c.loop-piece.piece-index c.loop-piece.hidden _ c.piece-item.result done.0 _ c.loop-piece-test.true c.piece-item.is c.hidden_behind-hidden.ensures.exact done.1,
        told_then _ _ _ _ _ done.2 c.piece_length.ensures c.sum-total.ensures,
      );
      few = omega (arith, c.loop-piece.invariant.few, c.hidden_behind-hidden.ensures.most);
    }
