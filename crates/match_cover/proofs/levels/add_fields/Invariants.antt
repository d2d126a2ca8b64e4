use Rattle.std.proofs.Common.{◌≡◌, drop, map}
use Rattle.con_terms.specs.View.{con_tree}
use Rattle.match_cover.specs.Levels.{add_fields}
use Rattle.match_cover.specs.View.{part_view}
use Rattle.match_cover.proofs.levels.add_fields.Given as goal

abbrev pub invariant-loop-i : goal.invariant-loop-i
invariant-loop-i l =
    add_fields (map part_view (drop l.i l.fields.items)) (map con_tree l.others.items)
    ≡ add_fields (map part_view l.fields.items) (map con_tree l.fn.others.items)
