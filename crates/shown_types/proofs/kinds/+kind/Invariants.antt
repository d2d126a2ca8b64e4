use Rattle.std.proofs.Common.{◌≡◌, true, map, drop}
use Rattle.con_terms.specs.View.{kind_tree, kinds_tree, kinds_from}
use Rattle.shown_types.specs.Printed.{put_kinds}
use Rattle.shown_types.proofs.kinds.+kind.Given as goal

abbrev pub invariant-put_kinds-loop-i : goal.invariant-put_kinds-loop-i
invariant-put_kinds-loop-i l =
    put_kinds true (kinds_tree l.kinds) l.initial.line ≡ put_kinds l.first (kinds_from (map kind_tree (drop l.i l.kinds.items.items))) l.line
