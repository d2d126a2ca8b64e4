use Rattle.std.proofs.Common.{◌≡◌, drop, map}
use Rattle.plain_tree.specs.ExpView.{arg_tree, args_tree}
use Rattle.unbound_names.specs.Patterns.{unbound_args}
use Rattle.unbound_names.specs.View.{around_view, ask_view}
use Rattle.unbound_names.proofs.patterns.unbound_args.Given as goal

abbrev pub invariant-loop-i : goal.invariant-loop-i
invariant-loop-i l =
    unbound_args (ask_view l.q) (around_view l.s) (args_tree l.args)
    ≡ unbound_args (ask_view l.q) (around_view l.here) (map arg_tree (drop l.i l.args.items.items))
