use Rattle.std.proofs.Common.{◌≡◌, drop, map}
use Rattle.plain_tree.specs.ConView as view
use Rattle.plain_tree.specs.declared.con.ConForm.TheViews as views
use Rattle.unbound_names.specs.Types.{unbound_cons, unbound_con_fields}
use Rattle.unbound_names.specs.View.{around_view, ask_view}
use Rattle.unbound_names.proofs.cons.+unbound_con.Given as goal

abbrev pub invariant-unbound_cons-loop-i : goal.invariant-unbound_cons-loop-i
invariant-unbound_cons-loop-i l =
    unbound_cons (ask_view l.q) (around_view l.s) (view.cons_tree l.cs)
    ≡ unbound_cons (ask_view l.q) (around_view l.s)
    (view.cons_from (map view.con_tree (drop l.i (views.out-Cons l.cs).items.items)))

abbrev pub invariant-unbound_fields-loop-i : goal.invariant-unbound_fields-loop-i
invariant-unbound_fields-loop-i l =
    unbound_con_fields (ask_view l.q) (around_view l.s) (view.con_fields_tree l.fs)
    ≡ unbound_con_fields (ask_view l.q) (around_view l.s)
    (view.con_fields_from (map view.con_field_tree (drop l.i (views.out-ConFields l.fs).items.items)))
