use Rattle.std.proofs.Common.{◌≡◌, ◌+◌, map, drop}
use Rattle.site_routes.specs.Shaping.{place_among}
use Rattle.site_routes.specs.View.{part_view}
use Rattle.site_routes.proofs.shapes.place_among.Given as goal

abbrev pub invariant-loop-i : goal.invariant-loop-i
invariant-loop-i l =
    place_among l.name (map part_view l.parts.items) ≡ l.i + place_among l.name (map part_view (drop l.i l.parts.items))
