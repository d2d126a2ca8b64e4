use Rattle.page_bytes.proofs.Putting.{puts_then, puts_on, puts_off, puts_short}
use Rattle.page_bytes.proofs.Tags.{tag_is}
use Rattle.page_bytes.proofs.writer.put_tag.Goals as goal

pub returns-in_err-put_chunks : goal.returns-in_err-put_chunks
returns-in_err-put_chunks g c =
    puts_short _ _ _ _ _ _ _ _ _ _ _ (tag_is c.args.tag.now c.args.attrs.now _ c.tag_front.ensures) c.from_residual.ensures.0 c.in_err-put_chunks.ensures

pub returns-in_err-put_attributes : goal.returns-in_err-put_attributes
returns-in_err-put_attributes g c =
    puts_off _ _ _ _ _ _ _ _ _ _ _ _ _ _ _ _ (tag_is c.args.tag.now c.args.attrs.now _ c.tag_front.ensures)
    c.from_residual-in_err-put_attributes.ensures.0 c.in_ok-put_chunks.ensures c.in_err-put_attributes.ensures

pub returns : goal.returns
returns g c =
    puts_on _ _ _ _ _ _ _ _ _ _ _ _ _ _ (tag_is c.args.tag.now c.args.attrs.now _ c.tag_front.ensures)
    c.in_ok-put_chunks.ensures (puts_then _ _ _ _ _ _ _ _ _ _ _ _ _ c.in_ok-put_attributes.ensures c.put.ensures)
