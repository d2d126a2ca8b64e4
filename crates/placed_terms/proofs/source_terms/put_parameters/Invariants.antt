use Rattle.std.proofs.Common.{◌≡◌, length, map}
use Rattle.plain_tree.specs.ExpView.{arg_tree}
use Rattle.placed_terms.specs.Parts.{source_listed}
use Rattle.placed_terms.specs.Source.{parameters_then}
use Rattle.placed_terms.proofs.source_terms.put_parameters.Given as goal

abbrev pub invariant-loop-last : goal.invariant-loop-last
invariant-loop-last l = parameters_then l.at (map arg_tree l.rest) (source_listed l.parts.items)
    ≡ parameters_then l.at (map arg_tree l.args) (source_listed l.initial.parts.items)

abbrev pub decreases-loop-last : goal.decreases-loop-last
decreases-loop-last l = length l.rest
