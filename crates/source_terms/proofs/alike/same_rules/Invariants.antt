use Rattle.std.proofs.Common.{◌≡◌, map, drop}
use Rattle.core_terms.specs.Lists.{rules_view}
use Rattle.core_terms.specs.View.{rule_view}
use Rattle.source_terms.specs.Alike.{each, rule_eq}
use Rattle.source_terms.proofs.alike.same_rules.Given as goal

abbrev pub invariant-loop-i : goal.invariant-loop-i
invariant-loop-i l =
    each rule_eq (rules_view l.a) (rules_view l.b)
    ≡ each rule_eq (map rule_view (drop l.i l.a.items.items))
    (map rule_view (drop l.i l.b.items.items))
