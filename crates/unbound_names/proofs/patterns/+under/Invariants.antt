use Rattle.std.proofs.Common.{◌≡◌, drop}
use Rattle.plain_tree.specs.ConView.{pat_fields_tree}
use Rattle.plain_tree.specs.declared.pat.PatForm.TheViews.{out-PatFields}
use Rattle.source_names.specs.Scopes.{under_values}
use Rattle.unbound_names.specs.Patterns.{fields_names}
use Rattle.unbound_names.specs.View.{around_view}
use Rattle.unbound_names.proofs.Scoping.{behind_fields}
use Rattle.unbound_names.proofs.patterns.+under.Given as goal

abbrev pub invariant-under_fields-loop-i : goal.invariant-under_fields-loop-i
invariant-under_fields-loop-i l =
    under_values (fields_names (pat_fields_tree l.fs)) (around_view l.fn.s)
    ≡ behind_fields (around_view l.here) (drop l.i (out-PatFields l.fs).items.items)
