use Rattle.std.proofs.Common.{◌≡◌, drop}
use Rattle.plain_tree.specs.ExpView.{named_list_tree}
use Rattle.plain_tree.specs.declared.exp.Form.TheViews.{out-NamedList}
use Rattle.source_names.specs.Scopes.{under_values}
use Rattle.source_names.specs.View.{scope_view}
use Rattle.source_terms.specs.Terms.{group_names}
use Rattle.source_terms.proofs.Scoping.{behind_names}
use Rattle.source_terms.proofs.scopes.inside_group.Given as goal

abbrev pub invariant-loop-i : goal.invariant-loop-i
invariant-loop-i l =
    under_values (group_names (named_list_tree l.ns)) (scope_view l.s)
    ≡ behind_names (scope_view l.here) (drop l.i (out-NamedList l.ns).items.items)
