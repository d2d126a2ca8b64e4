use Rattle.std.proofs.Common.{◌≡◌, drop, map}
use Rattle.con_terms.specs.View.{con_tree}
use Rattle.match_cover.specs.Levels.{is_among}
use Rattle.match_cover.proofs.levels.is_among.Given as goal

abbrev pub invariant-loop-i : goal.invariant-loop-i
invariant-loop-i l = is_among (con_tree l.t) (map con_tree l.others.items) ≡ is_among (con_tree l.t) (map con_tree (drop l.i l.others.items))
