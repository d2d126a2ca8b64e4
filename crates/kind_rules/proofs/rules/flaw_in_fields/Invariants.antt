use Rattle.std.proofs.Common.{◌≡◌, map, drop}
use Rattle.con_terms.specs.View.{kind_tree}
use Rattle.kind_rules.specs.Rules.{fields_flaw}
use Rattle.kind_rules.specs.View.{two_trees}
use Rattle.kind_rules.proofs.rules.flaw_in_fields.Given as goal

abbrev pub invariant-loop-i : goal.invariant-loop-i
invariant-loop-i l = fields_flaw (kind_tree l.k) (map two_trees l.fields.items) ≡ fields_flaw (kind_tree l.k) (map two_trees (drop l.i l.fields.items))
