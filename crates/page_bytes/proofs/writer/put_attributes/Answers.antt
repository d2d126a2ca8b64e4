use Rattle.std.proofs.Common.{◌++◌, List, ℕ, ap, ◌∙◌, take, drop, ◌+◌}
use Rattle.std.specs.List.{flat_map}
use Rattle.xml_trees.specs.declared.attrs.Attr.{Attr}
use Rattle.xml_trees.specs.Written.{attribute_of}
use Rattle.xml_trees.specs.PieceText.{attribute_bytes}
use Rattle.page_bytes.proofs.Putting.{puts_on, puts_off, item_between, item_behind}
use Rattle.page_bytes.proofs.writer.put_attributes.Goals as goal

pub returns-in_err-put_chunks : goal.returns-in_err-put_chunks
returns-in_err-put_chunks g c =
    let bytes : Attr → List ℕ = λ attr. attribute_bytes (attribute_of attr) in
    puts_off _ _ _ _ _ _ _ _ _ _ _ _ _ _ (flat_map bytes (drop (c.loop-attr.attr-index + 1) c.args.attrs.now)) _
    (ap (λ (l : List ℕ). flat_map bytes (take c.loop-attr.attr-index c.args.attrs.now) ++ (l ++ flat_map bytes (drop (c.loop-attr.attr-index + 1) c.args.attrs.now))) c.attribute.ensures
    ∙ item_between bytes c.args.attrs.now c.loop-attr.attr-index c.attr-item.result c.loop-attr-test.true c.attr-item.is)
    c.from_residual.ensures.0 c.loop-attr.invariant c.in_err-put_chunks.ensures

pub loop-attr-preserved : goal.loop-attr-preserved
loop-attr-preserved g c =
    let bytes : Attr → List ℕ = λ attr. attribute_bytes (attribute_of attr) in
    puts_on _ _ _ _ _ _ _ _ _ _ _ _ _ _
    (ap (λ (l : List ℕ). flat_map bytes (take c.loop-attr.attr-index c.args.attrs.now) ++ l) c.attribute.ensures
    ∙ item_behind bytes c.args.attrs.now c.loop-attr.attr-index c.attr-item.result c.loop-attr-test.true c.attr-item.is)
    c.loop-attr.invariant c.in_ok-put_chunks.ensures
