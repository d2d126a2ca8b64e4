use Rattle.std.proofs.Common.{◌-◌, ◌≡◌, ◌+◌, ◌≤◌, take}
use Rattle.std.specs.List.{suffix_len}
use Rattle.told_places.specs.Places.{is_in_line}
use Rattle.told_places.proofs.place.start_of_line.Given as goal

abbrev pub invariant-loop-start : goal.invariant-loop-start
invariant-loop-start l =
    (l.start + suffix_len is_in_line (take l.at l.text) ≡ l.at + suffix_len is_in_line (take l.start l.text)) × (l.start ≤ l.at)

abbrev pub decreases-loop-start : goal.decreases-loop-start
decreases-loop-start l = l.start
