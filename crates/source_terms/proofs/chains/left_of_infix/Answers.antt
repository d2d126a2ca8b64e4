use Rattle.std.proofs.Common.{◌≡◌, ◌&&◌, ap, sym, ◌∙◌}
use Rattle.core_terms.specs.Strip.{strip}
use Rattle.core_terms.specs.View.{exp_tree, form_tree}
use Rattle.plain_tree.specs.ExpView as plain
use Rattle.plain_tree.specs.declared.names.Infix.TheVariants as op
use Rattle.source_names.specs.View.{scope_view}
use Rattle.source_terms.specs.Leaves.{form_of}
use Rattle.source_terms.specs.Left.{left}
use Rattle.source_terms.specs.Tasks.{all_read}
use Rattle.source_terms.specs.Terms.{reads_infix, reads_term}
use Rattle.source_terms.proofs.Calling.{side}
use Rattle.source_terms.proofs.Nodes.{cat_is}
use Rattle.source_terms.proofs.chains.left_of_infix.Goals as goal

pub returns-in_ok-ask-in-Cat : goal.returns-in_ok-ask-in-Cat
returns-in_ok-ask-in-Cat c = λ test.
    let s = scope_view c.args.s.now in
    let e = plain.exp_tree c.args.e.now in
    let before = all_read c.args.tasks.now.items in
    let after = all_read c.ask.new.tasks.items in
    let x = form_of (strip (exp_tree c.in-Cat.x.value)) in
    let y = form_of (strip (exp_tree c.in-Cat.y.value)) in
    let asked : after ≡ (reads_term s e y && before) =
    c.in_ok-ask-in-Cat.ensures
    ∙ ap (λ z. reads_term s e (form_of (strip (exp_tree z))) && before) c.deref.ensures in
    ap (λ z. test (form_of (strip (exp_tree z))) && after) c.deref-in-Cat.ensures
    ∙ side (test x) (reads_term s e y) before after asked
    ∙ sym (ap (λ i. reads_infix s i test (λ g. reads_term s e g) (left (form_tree c.args.f.now)) && before)
    c.in-Concat.is
    ∙ ap (λ f. reads_infix s op.Concat test (λ g. reads_term s e g) (left f) && before)
    (ap form_tree c.in-Cat.is ∙ cat_is c.in-Cat.x c.in-Cat.y))
