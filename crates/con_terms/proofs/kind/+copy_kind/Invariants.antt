use Rattle.std.proofs.Common.{◌≡◌, map, take}
use Rattle.con_terms.specs.View.{kind_tree}
use Rattle.con_terms.proofs.kind.+copy_kind.Given as goal

abbrev pub invariant-copy_kinds-loop-i : goal.invariant-copy_kinds-loop-i
invariant-copy_kinds-loop-i l = map kind_tree l.items.items ≡ map kind_tree (take l.i l.ks.items.items)
