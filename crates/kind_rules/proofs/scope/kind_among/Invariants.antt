use Rattle.std.proofs.Common.{◌≡◌, map, drop}
use Rattle.con_terms.specs.Kinded.{basic_kind}
use Rattle.kind_rules.specs.View.{basic_tree}
use Rattle.kind_rules.proofs.scope.kind_among.Given as goal

abbrev pub invariant-loop-i : goal.invariant-loop-i
invariant-loop-i l = basic_kind (map basic_tree l.basics.items) l.name.number ≡ basic_kind (map basic_tree (drop l.i l.basics.items)) l.name.number
