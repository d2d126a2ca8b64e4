use Rattle.std.proofs.Common.{◌≡◌, ◌&&◌, refl, ap, sym, ◌∙◌}
use Rattle.core_terms.specs.Strip.{strip}
use Rattle.core_terms.specs.View.{exp_tree, form_tree}
use Rattle.plain_tree.specs.ConView as con_view
use Rattle.plain_tree.specs.ExpView as plain
use Rattle.plain_tree.specs.Trees.{exp_call, exp_case, exp_chain, exp_fn, exp_let, exp_typed}
use Rattle.source_names.specs.View.{scope_view}
use Rattle.source_terms.specs.Leaves.{form_of}
use Rattle.source_terms.specs.Left.{left}
use Rattle.source_terms.specs.Tasks.{all_read}
use Rattle.source_terms.proofs.Calling.{call_is_read}
use Rattle.source_terms.proofs.Whole.{at_form}
use Rattle.source_terms.proofs.WrittenForms.{call_written, case_written, chain_written, fn_written, let_written}
use Rattle.source_terms.proofs.WrittenForms.{typed_written}
use Rattle.source_terms.proofs.terms.is_form.Goals as goal

pub returns-in_ok-is_call-in-Call : goal.returns-in_ok-is_call-in-Call
returns-in_ok-is_call-in-Call c =
    let w = c.in-Call in
    at_form (scope_view c.args.s.now) (exp_call (plain.exp_tree c.deref.result.now) (plain.items_tree w.items))
    (plain.form_tree c.args.e.now)
    (left (form_tree c.standing-f.result.now)) (form_of (strip (exp_tree c.args.x.now)))
    (c.in_ok-is_call-in-Call.field-0 && all_read c.is_call.new.tasks.items) (all_read c.args.tasks.now.items)
    (c.in_ok-is_call-in-Call.ensures ∙ sym (ap (λ z. z && all_read c.args.tasks.now.items)
    (call_is_read (scope_view c.args.s.now) (plain.exp_tree c.deref.result.now) (plain.items_tree w.items)
    (left (form_tree c.standing-f.result.now))))) c.standing-f.ensures
    (ap plain.form_tree w.is ∙ call_written w.head w.items
    ∙ sym (ap (λ y. exp_call (plain.exp_tree y) (plain.items_tree w.items)) c.deref.ensures))

pub returns-in_ok-is_function-in-Fn : goal.returns-in_ok-is_function-in-Fn
returns-in_ok-is_function-in-Fn c =
    let w = c.in-Fn in
    at_form (scope_view c.args.s.now) (exp_fn (plain.args_tree w.args) (plain.exp_tree c.deref-in-Fn.result.now))
    (plain.form_tree c.args.e.now)
    (form_of (strip (exp_tree c.args.x.now))) (form_of (strip (exp_tree c.args.x.now)))
    (c.in_ok-is_function-in-Fn.field-0 && all_read c.is_function.new.tasks.items)
    (all_read c.args.tasks.now.items)
    c.in_ok-is_function-in-Fn.ensures refl
    (ap plain.form_tree w.is ∙ fn_written w.args w.body
    ∙ sym (ap (λ y. exp_fn (plain.args_tree w.args) (plain.exp_tree y)) c.deref-in-Fn.ensures))

pub returns-in_ok-is_case-in-Case : goal.returns-in_ok-is_case-in-Case
returns-in_ok-is_case-in-Case c =
    let w = c.in-Case in
    at_form (scope_view c.args.s.now) (exp_case (plain.exp_tree c.deref-in-Case.result.now)
    (plain.branch_tree c.deref-in-Case-2.result.now) (plain.branches_tree w.rest))
    (plain.form_tree c.args.e.now)
    (left (form_tree c.standing-f.result.now)) (form_of (strip (exp_tree c.args.x.now)))
    (c.in_ok-is_case-in-Case.field-0 && all_read c.is_case.new.tasks.items) (all_read c.args.tasks.now.items)
    c.in_ok-is_case-in-Case.ensures c.standing-f.ensures
    (ap plain.form_tree w.is ∙ case_written w.of w.first w.rest
    ∙ sym (ap (λ y. exp_case (plain.exp_tree y) (plain.branch_tree w.first.value) (plain.branches_tree w.rest))
    c.deref-in-Case.ensures)
    ∙ sym (ap (λ y. exp_case (plain.exp_tree c.deref-in-Case.result.now) (plain.branch_tree y)
    (plain.branches_tree w.rest)) c.deref-in-Case-2.ensures))

pub returns-in_ok-is_let-in-Let : goal.returns-in_ok-is_let-in-Let
returns-in_ok-is_let-in-Let c =
    let w = c.in-Let in
    at_form (scope_view c.args.s.now) (exp_let (plain.locals_tree w.locals)
    (plain.exp_tree c.deref-in-Let.result.now)) (plain.form_tree c.args.e.now)
    (left (form_tree c.standing-f.result.now)) (form_of (strip (exp_tree c.args.x.now)))
    (c.in_ok-is_let-in-Let.field-0 && all_read c.is_let.new.tasks.items) (all_read c.args.tasks.now.items)
    c.in_ok-is_let-in-Let.ensures c.standing-f.ensures
    (ap plain.form_tree w.is ∙ let_written w.locals w.body
    ∙ sym (ap (λ y. exp_let (plain.locals_tree w.locals) (plain.exp_tree y)) c.deref-in-Let.ensures))

pub returns-in_ok-is_typed-in-Typed : goal.returns-in_ok-is_typed-in-Typed
returns-in_ok-is_typed-in-Typed c =
    let w = c.in-Typed in
    at_form (scope_view c.args.s.now) (exp_typed (plain.exp_tree c.deref-in-Typed.result.now)
    (con_view.con_tree w.c)) (plain.form_tree c.args.e.now)
    (left (form_tree c.standing-f.result.now)) (form_of (strip (exp_tree c.args.x.now)))
    (c.in_ok-is_typed-in-Typed.field-0 && all_read c.is_typed.new.tasks.items) (all_read c.args.tasks.now.items)
    c.in_ok-is_typed-in-Typed.ensures c.standing-f.ensures
    (ap plain.form_tree w.is ∙ typed_written w.inner w.c
    ∙ sym (ap (λ y. exp_typed (plain.exp_tree y) (con_view.con_tree w.c)) c.deref-in-Typed.ensures))

pub returns-in_ok-is_chain-in-Chain : goal.returns-in_ok-is_chain-in-Chain
returns-in_ok-is_chain-in-Chain c =
    let w = c.in-Chain in
    at_form (scope_view c.args.s.now) (exp_chain (plain.exp_tree c.deref-in-Chain.result.now)
    (plain.links_tree w.links)) (plain.form_tree c.args.e.now)
    (form_of (strip (exp_tree c.args.x.now))) (form_of (strip (exp_tree c.args.x.now)))
    (c.in_ok-is_chain-in-Chain.field-0 && all_read c.is_chain.new.tasks.items) (all_read c.args.tasks.now.items)
    c.in_ok-is_chain-in-Chain.ensures refl
    (ap plain.form_tree w.is ∙ chain_written w.first w.links
    ∙ sym (ap (λ y. exp_chain (plain.exp_tree y) (plain.links_tree w.links)) c.deref-in-Chain.ensures))
