use Rattle.std.proofs.Common.{◌++◌, [], refl, append_assoc, append-nil, List, ℕ}
use Rattle.std.specs.Prelude.{codes}
use Rattle.xml_trees.specs.PieceText.{pieces_bytes}
use Rattle.page_bytes.proofs.Putting.{puts_then, puts_on, puts_off, puts_short}
use Rattle.page_bytes.proofs.writer.put_page.Goals as goal

abbrev front : List ℕ
front = codes "<!DOCTYPE html><html>"

abbrev back : List ℕ
back = codes "</html>"

pub returns-in_err-put-clause-puts : goal.returns-in_err-put-clause-puts
returns-in_err-put-clause-puts g c =
    puts_short _ _ _ _ _ _ _ _ front (pieces_bytes 0 c.args.pieces.now ++ back) _ refl c.from_residual.ensures.0 c.in_err-put.ensures

pub returns-in_err-put_pieces-clause-puts : goal.returns-in_err-put_pieces-clause-puts
returns-in_err-put_pieces-clause-puts g c =
    puts_off _ _ _ _ _ _ _ _ _ _ _ _ front (pieces_bytes 0 c.args.pieces.now) back _ refl
    c.from_residual-in_err-put_pieces.ensures.0 c.in_ok-put.ensures c.in_err-put_pieces.ensures

pub returns-in_err-put-2-clause-puts : goal.returns-in_err-put-2-clause-puts
returns-in_err-put-2-clause-puts g c =
    let bytes = pieces_bytes 0 c.args.pieces.now in
    puts_off _ _ _ _ _ _ _ _ _ _ _ _ (front ++ bytes) back [] _ (append_assoc front bytes back)
    c.from_residual-in_err-put-2.ensures.0 (puts_then _ _ _ _ _ _ _ _ _ _ _ front bytes c.in_ok-put.ensures c.in_ok-put_pieces.ensures) c.in_err-put-2.ensures

pub returns-clause-puts : goal.returns-clause-puts
returns-clause-puts g c =
    let bytes = pieces_bytes 0 c.args.pieces.now in
    puts_on _ _ _ _ _ _ _ _ _ _ _ (front ++ (bytes ++ back)) [] _ (append-nil (front ++ (bytes ++ back)))
    (puts_then _ _ _ _ _ _ _ _ _ _ _ front (bytes ++ back) c.in_ok-put.ensures (puts_then _ _ _ _ _ _ _ _ _ _ _ bytes back c.in_ok-put_pieces.ensures c.in_ok-put-2.ensures))
    c.flush.ensures.puts
