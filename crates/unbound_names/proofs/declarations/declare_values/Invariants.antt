use Rattle.std.proofs.Common.{◌≡◌, map, drop}
use Rattle.plain_tree.specs.ExpView as view
use Rattle.source_names.specs.View.{declared_view}
use Rattle.unbound_names.specs.Declarations.{declare_group}
use Rattle.unbound_names.proofs.declarations.declare_values.Given as goal

abbrev pub invariant-loop-i : goal.invariant-loop-i
invariant-loop-i l =
    declare_group (view.named_list_from (map view.named_tree l.ns)) (declared_view l.initial.known)
    ≡ declare_group (view.named_list_from (map view.named_tree (drop l.i l.ns))) (declared_view l.known)
