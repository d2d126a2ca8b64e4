use Rattle.std.proofs.Common.{◌≡◌, ◌-◌, ◌&&◌, length}
use Rattle.core_terms.specs.Strip.{strip}
use Rattle.core_terms.specs.View.{exp_tree}
use Rattle.plain_tree.specs.ExpView as view
use Rattle.plain_tree.specs.declared.exp.Form.TheViews.{out-Links}
use Rattle.source_names.specs.View.{scope_view}
use Rattle.source_terms.specs.Leaves.{form_of}
use Rattle.source_terms.specs.Parts.{first_links}
use Rattle.source_terms.specs.Tasks.{all_read}
use Rattle.source_terms.specs.Terms.{reads_links, reads_term}
use Rattle.source_terms.proofs.chains.is_chain.Given as goal

abbrev pub invariant-loop-i : goal.invariant-loop-i
invariant-loop-i l =
    (reads_links (scope_view l.s) (view.links_tree l.links) (λ g. reads_term (scope_view l.s)
    (view.exp_tree l.first) g) (form_of (strip (exp_tree l.fn.x))) && all_read l.fn.tasks.items)
    ≡ (reads_links (scope_view l.s) (first_links (length (out-Links l.links).items.items - l.i)
    (view.links_tree l.links)) (λ g. reads_term (scope_view l.s) (view.exp_tree l.first) g)
    (form_of (strip (exp_tree l.x))) && all_read l.tasks.items)
