use Rattle.std.proofs.Common.{◌≡◌, ◌&&◌, IfOk, ap, sym, ◌∙◌, subst}
use Rattle.core_terms.specs.Strip.{strip, strip_locals}
use Rattle.core_terms.specs.View.{exp_tree, form_tree, locals_tree}
use Rattle.plain_tree.specs.ExpView as plain
use Rattle.plain_tree.specs.Trees.{exp_let}
use Rattle.source_names.specs.View.{scope_view}
use Rattle.source_terms.specs.Leaves.{form_of}
use Rattle.source_terms.specs.Left.{left}
use Rattle.source_terms.specs.Tasks.{all_read}
use Rattle.source_terms.specs.Terms.{reads_form, reads_locals, reads_term}
use Rattle.source_terms.proofs.Nodes.{let_is}
use Rattle.source_terms.proofs.lets.is_let.Goals as goal

pub returns-in-Let : goal.returns-in-Let
returns-in-Let c =
    let s = scope_view c.args.s.now in
    let ls = plain.locals_tree c.args.ls.now in
    let e = plain.exp_tree c.args.e.now in
    let same : reads_locals s ls (λ t. reads_term t e (form_of (strip (exp_tree c.deref.result.now))))
    (strip_locals (locals_tree c.in-Let.ms)) ≡ reads_form s (exp_let ls e) (left (form_tree c.args.f.now)) =
    ap (λ y. reads_locals s ls (λ t. reads_term t e (form_of (strip (exp_tree y))))
    (strip_locals (locals_tree c.in-Let.ms))) c.deref.ensures
    ∙ sym (ap (λ g. reads_form s (exp_let ls e) (left g))
    (ap form_tree c.in-Let.is ∙ let_is c.in-Let.ms c.in-Let.x)) in
    subst (λ z. IfOk c.are_locals.result
    (λ b. (b && all_read c.are_locals.new.tasks.items) ≡ (z && all_read c.args.tasks.now.items)))
    same c.are_locals.ensures
