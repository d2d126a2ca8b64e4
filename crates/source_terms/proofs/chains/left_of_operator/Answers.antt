use Rattle.std.proofs.Common.{◌≡◌, ◌&&◌, true, ap, sym, ◌∙◌}
use Rattle.core_terms.specs.Strip.{strip}
use Rattle.core_terms.specs.Trees.{call}
use Rattle.core_terms.specs.View.{exp_tree, form_tree, items_tree}
use Rattle.core_terms.specs.declared.exp.Sigil.TheVariants.{Plain}
use Rattle.plain_tree.specs.ExpView as plain
use Rattle.source_names.specs.View.{scope_view}
use Rattle.source_terms.specs.Leaves.{form_of, is_operator}
use Rattle.source_terms.specs.Left.{left}
use Rattle.source_terms.specs.Tasks.{all_read}
use Rattle.source_terms.specs.Terms.{reads_term}
use Rattle.source_terms.proofs.Exits.{operator_holds}
use Rattle.source_terms.proofs.Nodes.{call_is}
use Rattle.source_terms.proofs.chains.left_of_operator.Goals as goal

pub returns-in_ok-ask-in-Some : goal.returns-in_ok-ask-in-Some
returns-in_ok-ask-in-Some c = λ test.
    let s = scope_view c.args.s.now in
    let e = plain.exp_tree c.args.e.now in
    let f = c.in-Call in
    let h = exp_tree f.head.value in
    let is = items_tree f.items in
    let called : form_tree c.args.f.now ≡ call h Plain is =
    ap form_tree f.is ∙ call_is f.head f.sigil f.items ∙ ap (λ g. call h g is) c.in-Plain.is in
    let head : left (form_tree c.standing.result.now) ≡ form_of (strip h) =
    c.standing.ensures ∙ ap (λ y. form_of (strip (exp_tree y))) c.deref.ensures in
    let so : is_operator c.args.op (left (form_tree c.standing.result.now)) ≡ true =
    sym c.is_operator.ensures ∙ c.if-not-is_operator.false in
    operator_holds c.args.op test (λ g. reads_term s e g) (form_tree c.args.f.now)
    (left (form_tree c.standing.result.now)) h is (strip (exp_tree c.in-Some.two.first.now))
    (strip (exp_tree c.in-Some.two.second.now)) (all_read c.args.tasks.now.items)
    (all_read c.ask.new.tasks.items)
    called head so c.in-Some.ensures c.in_ok-ask-in-Some.ensures
