use Rattle.std.proofs.Common.{◌≡◌}
use Rattle.core_terms.specs.Strip.{strip}
use Rattle.core_terms.specs.View.{exp_tree}
use Rattle.source_terms.specs.Leaves.{form_of}
use Rattle.source_terms.proofs.standing.standing.Given as goal

abbrev pub invariant-loop-x : goal.invariant-loop-x
invariant-loop-x l = form_of (strip (exp_tree l.x)) ≡ form_of (strip (exp_tree l.fn.x))
