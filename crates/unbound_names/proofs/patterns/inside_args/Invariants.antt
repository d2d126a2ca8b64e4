use Rattle.std.proofs.Common.{◌≡◌, drop, map}
use Rattle.plain_tree.specs.ExpView.{arg_tree, args_tree}
use Rattle.unbound_names.specs.Patterns.{under_args}
use Rattle.unbound_names.specs.View.{around_view}
use Rattle.unbound_names.proofs.patterns.inside_args.Given as goal

abbrev pub invariant-loop-i : goal.invariant-loop-i
invariant-loop-i l =
    under_args (args_tree l.args) (around_view l.s)
    ≡ under_args (map arg_tree (drop l.i l.args.items.items)) (around_view l.here)
