use Rattle.std.proofs.Common.{◌≡◌, map}
use Rattle.judgements.specs.View.{judged_tree}
use Rattle.markup_rules.specs.Nodes.{told_after, told_of}
use Rattle.markup_rules.specs.View.{judgements_view}
use Rattle.type_faults.specs.View.{maybe_fault}
use Rattle.core_checker.proofs.lists.told_of.Given as goal

abbrev pub invariant-loop-j : goal.invariant-loop-j
invariant-loop-j l = told_after (maybe_fault l.told) (map judged_tree l.j-iterator.rest.items) ≡ told_of (judgements_view l.fn.found)
