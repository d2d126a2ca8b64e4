use Rattle.std.proofs.Common.{◌≡◌, map, drop}
use Rattle.plain_tree.specs.View as view
use Rattle.source_names.specs.View.{declared_view}
use Rattle.unbound_names.specs.Declarations.{declare_builders}
use Rattle.unbound_names.proofs.declarations.declare_builders.Given as goal

abbrev pub invariant-loop-i : goal.invariant-loop-i
invariant-loop-i l =
    declare_builders (view.builders_tree l.bs) (declared_view l.initial.known)
    ≡ declare_builders (map view.builder_tree (drop l.i l.bs.items.items)) (declared_view l.known)
