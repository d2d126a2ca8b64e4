use Rattle.std.proofs.Common.{refl}
use Rattle.std.specs.Prelude.{codes}
use Rattle.page_bytes.proofs.Lengths.{told_framed, is_length}
use Rattle.page_bytes.proofs.Written.{page_of}
use Rattle.page_bytes.proofs.length.page_length.Goals as goal

pub returns : goal.returns
returns c =
    is_length _ _ _ (page_of c.pieces_are_pages.ensures c.pieces.result.now c.args.page.now c.pieces.ensures.nested c.requires c.pieces.ensures.pieces)
    (told_framed (codes "<!DOCTYPE html><html>") _ (codes "</html>") _ _ refl c.pieces_length.ensures c.sum.ensures)
