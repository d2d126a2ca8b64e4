use Rattle.std.proofs.Common.{◌≡◌, map, drop}
use Rattle.plain_tree.specs.View as view
use Rattle.unbound_names.specs.Declarations.{unbound_builders}
use Rattle.unbound_names.specs.View.{around_view, ask_view}
use Rattle.unbound_names.proofs.declarations.unbound_builders.Given as goal

abbrev pub invariant-loop-i : goal.invariant-loop-i
invariant-loop-i l =
    unbound_builders (ask_view l.q) (around_view l.s) (view.builders_tree l.bs)
    ≡ unbound_builders (ask_view l.q) (around_view l.s) (map view.builder_tree (drop l.i l.bs.items.items))
