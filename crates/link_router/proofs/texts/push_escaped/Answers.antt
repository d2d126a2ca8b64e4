use Rattle.std.proofs.Common.{◌≡◌, ◌++◌, subst, OnOk}
use Rattle.table_rows.specs.Pieces.{escaped}
use Rattle.link_router.proofs.Escapes.{text_escaped}
use Rattle.link_router.proofs.texts.push_escaped.Goals as goal

pub returns : goal.returns
returns c =
    let whole : c.as_str.result.now ≡ escaped c.args.words.now =
    rw (c.as_str.ensures.value, c.in_ok-append_to.ensures.ok, c.new-piece.ensures.bytes, c.percent_encode.ensures.text, c.as_bytes.ensures) (text_escaped c.args.words.now) in
    subst (λ bs. OnOk c.push_str.result (c.push_str.new.self ≡ c.args.text.now ++ bs)) whole c.push_str.ensures.ok
