use Rattle.std.proofs.Common.{◌≡◌, map, take}
use Rattle.con_terms.specs.View.{kind_tree}
use Rattle.con_terms.specs.declared.kind.Kinds.{out-Kinds}
use Rattle.kind_rules.proofs.rules.longer.Given as goal

abbrev pub invariant-loop-i : goal.invariant-loop-i
invariant-loop-i l = map kind_tree l.items.items ≡ map kind_tree (take l.i (out-Kinds l.ks).items.items)
