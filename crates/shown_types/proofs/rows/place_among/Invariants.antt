use Rattle.std.proofs.Common.{◌≡◌, ◌+◌, map, drop}
use Rattle.shown_types.specs.Order.{place_in}
use Rattle.shown_types.specs.View.{label}
use Rattle.shown_types.proofs.rows.place_among.Given as goal

abbrev pub invariant-loop-i : goal.invariant-loop-i
invariant-loop-i l = place_in l.name (map label l.fields.items) ≡ l.i + place_in l.name (map label (drop l.i l.fields.items))
