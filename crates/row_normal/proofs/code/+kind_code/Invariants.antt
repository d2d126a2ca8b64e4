use Rattle.std.proofs.Common.{◌≡◌, ◌+◌, ◌*◌, ◌++◌, max, drop}
use Rattle.con_terms.specs.declared.kind.Kind.TheViews.{size-Kind, size-Kinds}
use Rattle.row_normal.proofs.Coded.{codes, kind_numbers}
use Rattle.row_normal.proofs.code.+kind_code.Given as goal

abbrev pub invariant-kinds_code-loop-i : goal.invariant-kinds_code-loop-i
invariant-kinds_code-loop-i l = l.key.items ++ codes kind_numbers (drop l.i l.ks.items.items) ≡ l.initial.key.items ++ codes kind_numbers l.ks.items.items

abbrev pub decreases-kind_code : goal.decreases-kind_code
decreases-kind_code l = 4 * size-Kind l.k.now

abbrev pub decreases-row_kind_code : goal.decreases-row_kind_code
decreases-row_kind_code l = 4 * size-Kind l.k.now + 1

abbrev pub decreases-arrow_kind_code : goal.decreases-arrow_kind_code
decreases-arrow_kind_code l = 4 * max (size-Kind l.k.now) (size-Kind l.l.now) + 1

abbrev pub decreases-kinds_code : goal.decreases-kinds_code
decreases-kinds_code l = 4 * size-Kinds l.ks.now + 1
