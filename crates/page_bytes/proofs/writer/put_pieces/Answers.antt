use Rattle.std.proofs.Common.{arith, [], refl}
use Rattle.page_bytes.proofs.Putting.{puts_then, puts_off, puts_nothing, puts_all}
use Rattle.page_bytes.proofs.Pieces.{piece_between, piece_behind, no_piece}
use Rattle.page_bytes.proofs.writer.put_pieces.Goals as goal

pub loop-piece-init : goal.loop-piece-init
loop-piece-init g c = record {
  done = ([], refl, puts_nothing _ _ _ _);
  few = omega arith;
}

pub returns-in_err-put_piece : goal.returns-in_err-put_piece
returns-in_err-put_piece g c =
    let done = c.loop-piece.invariant.done in
    puts_off _ _ _ _ _ _ _ _ _ _ _ _ _ _ _ _
    (piece_between c.args.pieces.now c.loop-piece.piece-index c.loop-piece.hidden c.piece-item.result done.0 _ c.loop-piece-test.true c.piece-item.is done.1)
    c.from_residual.ensures.0 done.2 c.in_err-put_piece.ensures

pub loop-piece-preserved : goal.loop-piece-preserved
loop-piece-preserved g c =
    let done = c.loop-piece.invariant.done in record {
      done = (
        _,
        piece_behind c.args.pieces.now c.loop-piece.piece-index c.loop-piece.hidden _ c.piece-item.result done.0 _ c.loop-piece-test.true c.piece-item.is c.hidden_behind-hidden.ensures.exact done.1,
        puts_then _ _ _ _ _ _ _ _ _ _ _ _ _ done.2 c.in_ok-put_piece.ensures,
      );
      few = omega (arith, c.loop-piece.invariant.few, c.hidden_behind-hidden.ensures.most);
    }

pub returns : goal.returns
returns g c =
    let done = c.loop-piece.invariant.done in
    puts_all _ _ _ _ _ _ _ _ _ (no_piece c.args.pieces.now c.loop-piece.piece-index c.loop-piece.hidden done.0 _ c.loop-piece-test.false done.1) done.2
