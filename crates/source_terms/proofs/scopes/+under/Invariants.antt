use Rattle.std.proofs.Common.{◌≡◌, drop}
use Rattle.plain_tree.specs.ConView.{pat_fields_tree}
use Rattle.plain_tree.specs.declared.pat.PatForm.TheViews.{out-PatFields}
use Rattle.source_names.specs.Scopes.{under_values}
use Rattle.source_names.specs.View.{scope_view}
use Rattle.source_terms.specs.Patterns.{fields_names}
use Rattle.source_terms.proofs.Scoping.{behind_fields}
use Rattle.source_terms.proofs.scopes.+under.Given as goal

abbrev pub invariant-under_fields-loop-i : goal.invariant-under_fields-loop-i
invariant-under_fields-loop-i l =
    under_values (fields_names (pat_fields_tree l.fs)) (scope_view l.fn.s)
    ≡ behind_fields (scope_view l.here) (drop l.i (out-PatFields l.fs).items.items)
