use Rattle.std.proofs.Common.{◌≡◌, drop, map}
use Rattle.plain_tree.specs.ConView as view
use Rattle.plain_tree.specs.declared.pat.PatForm.TheViews as views
use Rattle.unbound_names.specs.Patterns.{unbound_pat_fields}
use Rattle.unbound_names.specs.View.{around_view, ask_view}
use Rattle.unbound_names.proofs.patterns.+unbound_pat.Given as goal

abbrev pub invariant-unbound_fields-loop-i : goal.invariant-unbound_fields-loop-i
invariant-unbound_fields-loop-i l =
    unbound_pat_fields (ask_view l.q) (around_view l.s) (view.pat_fields_tree l.fs)
    ≡ unbound_pat_fields (ask_view l.q) (around_view l.s)
    (view.pat_fields_from (map view.pat_field_tree (drop l.i (views.out-PatFields l.fs).items.items)))
