use Rattle.std.proofs.Common.{◌≡◌, map, drop}
use Rattle.plain_tree.specs.View as view
use Rattle.source_names.specs.View.{declared_view}
use Rattle.unbound_names.specs.Declarations.{declared_behind_all}
use Rattle.unbound_names.proofs.declarations.declare_all.Given as goal

abbrev pub invariant-loop-i : goal.invariant-loop-i
invariant-loop-i l =
    declared_behind_all (view.decls_tree l.xs) (declared_view l.initial.known)
    ≡ declared_behind_all (map view.decl_tree (drop l.i l.xs.items.items)) (declared_view l.known)
