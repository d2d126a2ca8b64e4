use Rattle.std.proofs.Common.{◌≡◌, ◌+◌, map, drop}
use Rattle.page_walk.specs.Adding.{label, place_in}
use Rattle.page_walk.proofs.links.place_among.Given as goal

abbrev pub invariant-loop-i : goal.invariant-loop-i
invariant-loop-i l = place_in l.name (map label l.fields.items) ≡ l.i + place_in l.name (map label (drop l.i l.fields.items))
