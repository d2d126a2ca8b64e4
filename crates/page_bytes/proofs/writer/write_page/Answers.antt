use Rattle.page_bytes.proofs.Written.{page_of, writes_page, writes_front}
use Rattle.page_bytes.proofs.writer.write_page.Goals as goal

pub returns-clause-page : goal.returns-clause-page
returns-clause-page g c =
    writes_page _ _ _ _ _ _ _ _ _ c.new-held.ensures c.put_page.ensures.empty
    (page_of c.pieces_are_pages.ensures c.pieces.result.now c.args.page.now c.pieces.ensures.nested c.requires c.pieces.ensures.pieces) c.put_page.ensures.puts

pub returns-clause-front : goal.returns-clause-front
returns-clause-front g c =
    writes_front _ _ _ _ _ _ _ _ _ c.new-held.ensures
    (page_of c.pieces_are_pages.ensures c.pieces.result.now c.args.page.now c.pieces.ensures.nested c.requires c.pieces.ensures.pieces) c.put_page.ensures.puts
