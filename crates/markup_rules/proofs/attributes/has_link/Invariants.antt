use Rattle.std.proofs.Common.{◌≡◌, drop}
use Rattle.core_terms.specs.Lists.{attribute_list}
use Rattle.core_terms.specs.View.{attributes_tree}
use Rattle.markup_rules.specs.Attributes.{has_link}
use Rattle.markup_rules.proofs.attributes.has_link.Given as goal

abbrev pub invariant-loop-i : goal.invariant-loop-i
invariant-loop-i l =
    has_link (drop l.i (attribute_list (attributes_tree l.attributes))) ≡ has_link (attribute_list (attributes_tree l.attributes))
