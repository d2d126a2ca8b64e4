use Rattle.std.proofs.Common.{◌≡◌, map, length}
use Rattle.std.specs.Vec.Iter.{into_iter_items, into_iter_len}
use Rattle.type_faults.specs.View.{maybe_fault}
use Rattle.judgements.specs.View.{judged_tree}
use Rattle.markup_rules.specs.Nodes.{told_after, told_of}
use Rattle.markup_rules.specs.View.{judgements_view}
use Rattle.markup_rules.proofs.judged.told_of.Given as goal

abbrev pub invariant-loop-j : goal.invariant-loop-j
invariant-loop-j l =
    (told_after (maybe_fault l.told) (map judged_tree (into_iter_items l.j-iterator)) ≡ told_of (judgements_view l.fn.judged))
    × (into_iter_len l.j-iterator ≡ length (into_iter_items l.j-iterator))
