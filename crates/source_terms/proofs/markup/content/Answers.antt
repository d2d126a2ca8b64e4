use Rattle.std.proofs.Common.{◌≡◌, ◌&&◌, ap, sym, ◌∙◌}
use Rattle.std.specs.Str.{bytes_eq}
use Rattle.core_terms.specs.Strip.{strip_attributes, strip_nodes}
use Rattle.core_terms.specs.View.{attributes_tree, form_tree, maybe_name, nodes_tree}
use Rattle.core_terms.specs.declared.exp.Element.{Element}
use Rattle.core_terms.specs.declared.exp.Form.TheViews.{out-Element}
use Rattle.plain_tree.specs.ConView as con_view
use Rattle.plain_tree.specs.ExpView as plain
use Rattle.source_names.specs.View.{scope_view}
use Rattle.source_terms.specs.Left.{left}
use Rattle.source_terms.specs.Tasks.{all_read}
use Rattle.source_terms.specs.Terms.{is_filled, reads_attributes, reads_element}
use Rattle.xml_trees.specs.SourceNames.{tag_text}
use Rattle.source_terms.proofs.Around.{around_fails, around_holds}
use Rattle.source_terms.proofs.Nodes.{element_is}
use Rattle.source_terms.proofs.markup.content.Goals as goal

pub returns-then-not-branch : goal.returns-then-not-branch
returns-then-not-branch c = λ test.
    let s = scope_view c.args.s.now in
    let field = con_view.maybe_con c.args.field.now in
    let attributes = plain.attributes_tree c.args.attributes.now in
    let before = all_read c.args.tasks.now.items in
    let after = all_read c.is_around.new.tasks.items in
    let found = c.in_ok-is_around-in-Element.field-0 in
    let x = c.in-Element.x.value in
    let tagged_so = λ (e : Element). bytes_eq (tag_text (out-Element e).tag) c.args.tag.now in
    let filled_so = λ (e : Element). is_filled s field (maybe_name (out-Element e).field) in
    let given_so = λ (e : Element).
    reads_attributes s attributes (strip_attributes (attributes_tree (out-Element e).attributes)) in
    let around : (found && after) ≡ ((tagged_so x && filled_so x && given_so x) && before) =
    c.in_ok-is_around-in-Element.ensures
    ∙ ap (λ e. (tagged_so e && filled_so c.deref-in-Element.result.now
    && given_so c.deref-in-Element-2.result.now) && before) c.deref.ensures
    ∙ ap (λ e. (tagged_so x && filled_so e && given_so c.deref-in-Element-2.result.now) && before)
    c.deref-in-Element.ensures
    ∙ ap (λ e. (tagged_so x && filled_so x && given_so e) && before) c.deref-in-Element-2.ensures in
    let content = test (strip_nodes (nodes_tree (out-Element x).content)) in
    let same : (reads_element s c.args.tag.now field (λ bs. reads_attributes s attributes bs) test
    (left (form_tree c.args.f.now)) && before)
    ≡ ((tagged_so x && filled_so x && given_so x && content) && before) =
    ap (λ f. reads_element s c.args.tag.now field (λ bs. reads_attributes s attributes bs) test (left f)
    && before)
    (ap form_tree c.in-Element.is ∙ element_is c.in-Element.x) in
    around_fails (tagged_so x) (filled_so x) (given_so x) content before after found c.if-not-branch.true around
    ∙ sym same

pub returns-else-not-branch : goal.returns-else-not-branch
returns-else-not-branch c = λ test.
    let s = scope_view c.args.s.now in
    let field = con_view.maybe_con c.args.field.now in
    let attributes = plain.attributes_tree c.args.attributes.now in
    let before = all_read c.args.tasks.now.items in
    let after = all_read c.is_around.new.tasks.items in
    let found = c.in_ok-is_around-in-Element.field-0 in
    let x = c.in-Element.x.value in
    let tagged_so = λ (e : Element). bytes_eq (tag_text (out-Element e).tag) c.args.tag.now in
    let filled_so = λ (e : Element). is_filled s field (maybe_name (out-Element e).field) in
    let given_so = λ (e : Element).
    reads_attributes s attributes (strip_attributes (attributes_tree (out-Element e).attributes)) in
    let around : (found && after) ≡ ((tagged_so x && filled_so x && given_so x) && before) =
    c.in_ok-is_around-in-Element.ensures
    ∙ ap (λ e. (tagged_so e && filled_so c.deref-in-Element.result.now
    && given_so c.deref-in-Element-2.result.now) && before) c.deref.ensures
    ∙ ap (λ e. (tagged_so x && filled_so e && given_so c.deref-in-Element-2.result.now) && before)
    c.deref-in-Element.ensures
    ∙ ap (λ e. (tagged_so x && filled_so x && given_so e) && before) c.deref-in-Element-2.ensures in
    let content = test (strip_nodes (nodes_tree (out-Element x).content)) in
    let same : (reads_element s c.args.tag.now field (λ bs. reads_attributes s attributes bs) test
    (left (form_tree c.args.f.now)) && before)
    ≡ ((tagged_so x && filled_so x && given_so x && content) && before) =
    ap (λ f. reads_element s c.args.tag.now field (λ bs. reads_attributes s attributes bs) test (left f)
    && before)
    (ap form_tree c.in-Element.is ∙ element_is c.in-Element.x) in
    ap (λ e. test (strip_nodes (nodes_tree (out-Element e).content)) && after) c.deref-in-Element-3.ensures
    ∙ around_holds (tagged_so x) (filled_so x) (given_so x) content before after found c.if-not-branch.false around
    ∙ sym same
