use Rattle.std.proofs.Common.{vec_len, arith}
use Rattle.page_forms.proofs.Texts.{texts_are}
use Rattle.plain_tree.specs.declared.exp.Form.TheViews.{out-Nodes}
use Rattle.page_forms.proofs.contexts.are_texts.Goals as goal

pub returns : goal.returns
returns c =
    let xs = (out-Nodes c.args.nodes.now).items in
    let gs = c.args.tags.now in
    texts_are c.args.nodes.now gs.items c.is_empty.result c.is_empty-2.result (vec_len xs) (vec_len gs)
    c.is_empty.ensures c.if-is_empty.false c.is_empty-2.ensures (omega (arith, xs.ok.0)) (omega (arith, gs.ok.0))
