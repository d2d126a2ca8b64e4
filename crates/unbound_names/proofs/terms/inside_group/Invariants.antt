use Rattle.std.proofs.Common.{◌≡◌, drop}
use Rattle.plain_tree.specs.ExpView.{named_list_tree}
use Rattle.plain_tree.specs.declared.exp.Form.TheViews.{out-NamedList}
use Rattle.source_names.specs.Scopes.{under_values}
use Rattle.unbound_names.specs.Terms.{group_names}
use Rattle.unbound_names.specs.View.{around_view}
use Rattle.unbound_names.proofs.Scoping.{behind_names}
use Rattle.unbound_names.proofs.terms.inside_group.Given as goal

abbrev pub invariant-loop-i : goal.invariant-loop-i
invariant-loop-i l =
    under_values (group_names (named_list_tree l.ns)) (around_view l.s)
    ≡ behind_names (around_view l.here) (drop l.i (out-NamedList l.ns).items.items)
