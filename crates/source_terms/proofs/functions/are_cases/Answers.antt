use Rattle.std.proofs.Common.{Bool}
use Rattle.core_terms.specs.Lists.{branch_tree}
use Rattle.core_terms.specs.Strip.{strip, strip_branches, strip_pattern}
use Rattle.core_terms.specs.View.{branches_tree, exp_tree}
use Rattle.plain_tree.specs.ExpView as plain
use Rattle.source_names.specs.View.{scope_view}
use Rattle.source_terms.specs.Leaves.{form_of}
use Rattle.source_terms.specs.Tasks.{all_read}
use Rattle.source_terms.specs.Terms.{reads_branch, reads_branches, reads_term}
use Rattle.source_terms.proofs.Tasking.{cases_fail, cases_all}
use Rattle.source_terms.proofs.functions.are_cases.Goals as goal

pub returns-then-not-branch : goal.returns-then-not-branch
returns-then-not-branch c =
    let s = scope_view c.args.s.now in
    let b = branch_tree c.args.branch.now in
    let of : Bool = reads_term s (plain.exp_tree c.args.e.now) (form_of (strip (exp_tree c.args.x.now))) in
    let first : Bool = reads_branch s (plain.branch_tree c.args.first.now) (strip_pattern b.1)
    (form_of (strip b.2)) in
    let rest : Bool = reads_branches s (plain.branches_tree c.args.rest.now)
    (strip_branches (branches_tree c.args.branches.now)) in
    cases_fail of first rest (all_read c.args.tasks.now.items) (all_read c.ask.new.tasks.items)
    (all_read c.is_branch.new.tasks.items) c.in_ok-is_branch.field-0 c.in_ok-ask.ensures c.if-not-branch.true
    c.in_ok-is_branch.ensures

pub returns : goal.returns
returns c =
    let s = scope_view c.args.s.now in
    let b = branch_tree c.args.branch.now in
    let of : Bool = reads_term s (plain.exp_tree c.args.e.now) (form_of (strip (exp_tree c.args.x.now))) in
    let first : Bool = reads_branch s (plain.branch_tree c.args.first.now) (strip_pattern b.1)
    (form_of (strip b.2)) in
    let rest : Bool = reads_branches s (plain.branches_tree c.args.rest.now)
    (strip_branches (branches_tree c.args.branches.now)) in
    cases_all of first rest (all_read c.args.tasks.now.items) (all_read c.ask.new.tasks.items)
    (all_read c.is_branch.new.tasks.items) (all_read c.are_branches.new.tasks.items) c.in_ok-is_branch.field-0
    c.in_ok-found.found c.in_ok-ask.ensures c.if-not-branch.false c.in_ok-is_branch.ensures
    c.in_ok-found.ensures
