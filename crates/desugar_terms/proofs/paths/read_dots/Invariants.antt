use Rattle.std.proofs.Common.{◌≡◌, [], map}
use Rattle.desugar_values.specs.View.{meaning_tree, meanings_from, meanings_tree}
use Rattle.desugar_terms.specs.Paths.{finish, longest, reached_tree}
use Rattle.desugar_terms.proofs.paths.read_dots.Given as goal

abbrev pub invariant-loop-dot : goal.invariant-loop-dot
invariant-loop-dot l =
    finish (reached_tree l.reached) (meanings_from (map meaning_tree l.dot-iterator.rest.items))
    ≡ longest [] l.fn.first (meanings_tree l.fn.dots)
