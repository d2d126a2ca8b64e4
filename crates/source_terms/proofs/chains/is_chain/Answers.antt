use Rattle.std.proofs.Common.{◌≡◌, ℕ, ◌+◌, ◌-◌, ◌<◌, ◌&&◌, length, ap, sym, ◌∙◌, arith}
use Rattle.core_terms.specs.Strip.{strip}
use Rattle.core_terms.specs.Trees.{Fo}
use Rattle.core_terms.specs.View.{exp_tree, form_tree}
use Rattle.plain_tree.specs.ExpView as view
use Rattle.plain_tree.specs.declared.exp.Form.TheViews.{out-Links}
use Rattle.source_names.specs.View.{scope_view}
use Rattle.source_terms.specs.Leaves.{form_of}
use Rattle.source_terms.specs.Left.{left}
use Rattle.source_terms.specs.Parts.{first_links}
use Rattle.source_terms.specs.Tasks.{all_read, at_before}
use Rattle.source_terms.specs.Terms.{reads_links, reads_term}
use Rattle.source_terms.proofs.Chaining.{chain_whole}
use Rattle.source_terms.proofs.Entering.{chain_step}
use Rattle.source_terms.proofs.Walking.{items_begin}
use Rattle.source_terms.proofs.chains.is_chain.Goals as goal

pub loop-i-init : goal.loop-i-init
loop-i-init c =
    let n = length (out-Links c.args.links.now).items.items in
    let h : n - 0 ≡ n = omega arith in
    items_begin _ _ _ (sym (chain_whole (scope_view c.args.s.now) (λ g. reads_term (scope_view c.args.s.now)
    (view.exp_tree c.args.first.now) g) c.args.links.now (n - 0) (form_of (strip (exp_tree c.args.x.now))) h))

pub returns-in-None : goal.returns-in-None
returns-in-None c =
    let s = scope_view c.args.s.now in
    let first = λ (g : Fo). reads_term s (view.exp_tree c.args.first.now) g in
    let ls = c.args.links.now in
    let xs = (out-Links ls).items in
    let n = length xs.items in
    let test = λ (g : Fo). reads_links s (first_links (n - (c.loop-i.i + 1)) (view.links_tree ls)) first g in
    let place = c.len.result - 1 - c.loop-i.i in
    let within : c.loop-i.i < n = omega (arith, xs.ok.0) in
    let there : place ≡ n - 1 - c.loop-i.i = omega (arith, xs.ok.0) in
    let after = all_read c.left_of.new.tasks.items in
    let step : (reads_links s (view.links_tree ls) first (form_of (strip (exp_tree c.args.x.now)))
    && all_read c.args.tasks.now.items) ≡ (at_before c.in_ok-left_of.field-0 test && after) =
    chain_step s first ls c.loop-i.i place c.index-link.result.now (form_of (strip (exp_tree c.loop-i.x.now)))
    (left (form_tree c.standing.result.now)) _ (all_read c.loop-i.tasks.items) after
    (at_before c.in_ok-left_of.field-0 test) within there c.index-link.ensures c.loop-i.invariant
    c.standing.ensures (c.in_ok-left_of.ensures test) in
    sym (step ∙ ap (λ o. at_before o test && after) c.in-None.is)

pub loop-i-preserved : goal.loop-i-preserved
loop-i-preserved c =
    let s = scope_view c.args.s.now in
    let first = λ (g : Fo). reads_term s (view.exp_tree c.args.first.now) g in
    let ls = c.args.links.now in
    let xs = (out-Links ls).items in
    let n = length xs.items in
    let test = λ (g : Fo). reads_links s (first_links (n - (c.loop-i.i + 1)) (view.links_tree ls)) first g in
    let place = c.len.result - 1 - c.loop-i.i in
    let within : c.loop-i.i < n = omega (arith, xs.ok.0) in
    let there : place ≡ n - 1 - c.loop-i.i = omega (arith, xs.ok.0) in
    let after = all_read c.left_of.new.tasks.items in
    let step : (reads_links s (view.links_tree ls) first (form_of (strip (exp_tree c.args.x.now)))
    && all_read c.args.tasks.now.items) ≡ (at_before c.in_ok-left_of.field-0 test && after) =
    chain_step s first ls c.loop-i.i place c.index-link.result.now (form_of (strip (exp_tree c.loop-i.x.now)))
    (left (form_tree c.standing.result.now)) _ (all_read c.loop-i.tasks.items) after
    (at_before c.in_ok-left_of.field-0 test) within there c.index-link.ensures c.loop-i.invariant
    c.standing.ensures (c.in_ok-left_of.ensures test) in
    step ∙ ap (λ o. at_before o test && after) c.in-Some.is
