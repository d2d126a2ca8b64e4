use Rattle.std.proofs.Common.{◌∙◌, append_assoc, refl}
use Rattle.std.specs.Prelude.{codes}
use Rattle.page_bytes.proofs.Lengths.{told_then, told_all}
use Rattle.page_bytes.proofs.Tags.{tag_is}
use Rattle.page_bytes.proofs.length.tag_length.Goals as goal

pub returns : goal.returns
returns c =
    told_all _ _ _ (append_assoc _ _ (codes ">") ∙ tag_is c.args.tag.now c.args.attrs.now _ c.tag_front.ensures)
    (told_then _ (codes ">") _ 1 _ (told_then _ _ _ _ _ c.chunks_length-front.ensures c.attributes_length-given.ensures c.sum.ensures) refl c.sum-2.ensures)
