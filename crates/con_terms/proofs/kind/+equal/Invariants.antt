use Rattle.std.proofs.Common.{◌≡◌, map, drop}
use Rattle.con_terms.specs.Same.{kds_eq}
use Rattle.con_terms.specs.View.{kind_tree, kinds_tree, kinds_from}
use Rattle.con_terms.proofs.kind.+equal.Given as goal

abbrev pub invariant-equal_each-loop-i : goal.invariant-equal_each-loop-i
invariant-equal_each-loop-i l =
    kds_eq (kinds_tree l.ks) (kinds_tree l.ls) ≡ kds_eq (kinds_from (map kind_tree (drop l.i l.ks.items.items))) (kinds_from (map kind_tree (drop l.i l.ls.items.items)))
