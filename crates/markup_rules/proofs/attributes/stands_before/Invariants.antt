use Rattle.std.proofs.Common.{◌≡◌, false, take}
use Rattle.core_terms.specs.Lists.{attribute_list}
use Rattle.core_terms.specs.View.{attributes_tree}
use Rattle.markup_rules.specs.Attributes.{stands_among}
use Rattle.markup_rules.proofs.attributes.stands_before.Given as goal

abbrev pub invariant-loop-i : goal.invariant-loop-i
invariant-loop-i l = stands_among l.name (take l.i (attribute_list (attributes_tree l.attributes))) ≡ false
