use Rattle.std.proofs.Common.{◌≡◌, map, take}
use Rattle.shown_types.specs.Order.{second}
use Rattle.shown_types.specs.View.{label, pair_now}
use Rattle.shown_types.proofs.rows.ordered.Given as goal

abbrev pub invariant-loop-i : goal.invariant-loop-i
invariant-loop-i l = map pair_now l.made.items ≡ map second (map label (take l.i l.fields.items))
