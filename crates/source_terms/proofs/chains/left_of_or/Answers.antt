use Rattle.std.proofs.Common.{◌≡◌, ◌&&◌, Bool, true, ap, sym, ◌∙◌}
use Rattle.core_terms.specs.Lists.{branch_tree}
use Rattle.core_terms.specs.Strip.{strip, strip_pattern}
use Rattle.core_terms.specs.View.{exp_tree, form_tree, pat_tree, branches_tree}
use Rattle.core_terms.specs.declared.exp.Form.TheViews.{out-Branch}
use Rattle.plain_tree.specs.ExpView as plain
use Rattle.plain_tree.specs.declared.names.BasisBuilder.TheVariants as truth
use Rattle.source_names.specs.View.{scope_view}
use Rattle.source_terms.specs.Leaves.{form_of, is_bare_of, is_basis_builder}
use Rattle.source_terms.specs.Tasks.{all_read}
use Rattle.source_terms.specs.Terms.{reads_or, reads_term}
use Rattle.source_terms.proofs.Exits.{or_reads, exit_last}
use Rattle.source_terms.proofs.Nodes.{branch_is, case_is}
use Rattle.source_terms.proofs.chains.left_of_or.Goals as goal

pub returns-in_ok-ask-in-Some : goal.returns-in_ok-ask-in-Some
returns-in_ok-ask-in-Some c = λ test.
    let s = scope_view c.args.s.now in
    let before = all_read c.args.tasks.now.items in
    let after = all_read c.ask.new.tasks.items in
    let e = plain.exp_tree c.args.e.now in
    let x = exp_tree c.in-Case.x.value in
    let one = branch_tree c.in-Case.first.value in
    let two = branch_tree c.in-Some.second.now in
    let first : is_bare_of s truth.True (strip_pattern one.1) ≡ true =
    ap (λ b. is_bare_of s truth.True (strip_pattern b.1)) (branch_is c.in-Case.first.value)
    ∙ sym (ap (λ b. is_bare_of s truth.True (strip_pattern (pat_tree (out-Branch b).pat))) c.deref.ensures)
    ∙ sym c.in_ok-is_bare_of-in-Some.ensures ∙ c.if-not-branch.false in
    let second : is_basis_builder s truth.True (form_of (strip one.2)) ≡ true =
    ap (λ b. is_basis_builder s truth.True (form_of (strip b.2))) (branch_is c.in-Case.first.value)
    ∙ sym (ap (λ b. is_basis_builder s truth.True (form_of (strip (exp_tree (out-Branch b).body))))
    c.deref-in-Some.ensures)
    ∙ sym (ap (λ f. is_basis_builder s truth.True f) c.standing.ensures)
    ∙ sym c.in_ok-is_basis_builder-in-Some.ensures ∙ c.if-not-branch-2.false in
    let third : is_bare_of s truth.False (strip_pattern two.1) ≡ true =
    ap (λ b. is_bare_of s truth.False (strip_pattern b.1)) (branch_is c.in-Some.second.now)
    ∙ sym c.in_ok-is_bare_of-in-Some-2.ensures ∙ c.if-not-branch-3.false in
    let asked : after ≡ (reads_term s e (form_of (strip two.2)) && before) =
    c.in_ok-ask-in-Some.ensures
    ∙ sym (ap (λ b. reads_term s e (form_of (strip b.2)) && before) (branch_is c.in-Some.second.now)) in
    ap (λ y. test (form_of (strip (exp_tree y))) && after) c.deref-in-Some-2.ensures
    ∙ exit_last (is_bare_of s truth.True (strip_pattern one.1))
    (is_basis_builder s truth.True (form_of (strip one.2)))
    (is_bare_of s truth.False (strip_pattern two.1)) (test (form_of (strip x)))
    (reads_term s e (form_of (strip two.2))) before after _
    (or_reads s test (λ g. reads_term s e g) (form_tree c.args.f.now) x one two (branches_tree c.in-Case.rest)
    (ap form_tree c.in-Case.is ∙ case_is c.in-Case.x c.in-Case.first c.in-Case.rest) c.in-Some.ensures)
    first second third asked
