use Rattle.std.proofs.Common.{◌≡◌, ◌++◌, map}
use Rattle.plain_tree.specs.ExpView.{arg_tree}
use Rattle.desugar_values.specs.View.{meaning_tree, meanings_from, meanings_tree}
use Rattle.desugar_types.specs.Parameters.{args_of}
use Rattle.desugar_types.proofs.parameters.add_args.Given as goal

abbrev pub invariant-loop-part : goal.invariant-loop-part
invariant-loop-part l =
    map arg_tree l.items.items ++ args_of (meanings_from (map meaning_tree l.part-iterator.rest.items))
    ≡ map arg_tree l.fn.items.items ++ args_of (meanings_tree l.fn.more)
