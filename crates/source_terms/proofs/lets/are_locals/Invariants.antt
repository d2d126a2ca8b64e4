use Rattle.std.proofs.Common.{◌≡◌, ◌&&◌, drop}
use Rattle.core_terms.specs.Strip.{strip, strip_locals}
use Rattle.core_terms.specs.View.{exp_tree, locals_tree}
use Rattle.core_terms.specs.declared.exp.Form.TheViews.{out-Locals}
use Rattle.plain_tree.specs.ExpView as view
use Rattle.plain_tree.specs.declared.exp.Form.TheViews as plain
use Rattle.source_names.specs.View.{scope_view}
use Rattle.source_terms.specs.Leaves.{form_of}
use Rattle.source_terms.specs.Tasks.{all_read}
use Rattle.source_terms.specs.Terms.{reads_locals, reads_term}
use Rattle.source_terms.proofs.Walking.{locals_on}
use Rattle.source_terms.proofs.lets.are_locals.Given as goal

abbrev pub invariant-loop-i : goal.invariant-loop-i
invariant-loop-i l =
    (reads_locals (scope_view l.s) (view.locals_tree l.ls) (λ t. reads_term t (view.exp_tree l.e)
    (form_of (strip (exp_tree l.x)))) (strip_locals (locals_tree l.ms)) && all_read l.fn.tasks.items)
    ≡ (locals_on (scope_view l.here) (λ t. reads_term t (view.exp_tree l.e) (form_of (strip (exp_tree l.x))))
    (drop l.i (plain.out-Locals l.ls).items.items) (drop l.i (out-Locals l.ms).items.items)
    && all_read l.tasks.items)
