use Rattle.std.proofs.Common.{◌≡◌, drop, take}
use Rattle.con_terms.specs.View.{con_tree}
use Rattle.core_terms.specs.Lists.{attribute_list}
use Rattle.core_terms.specs.View.{attributes_tree}
use Rattle.judgements.specs.View.{sc_view}
use Rattle.carried_types.specs.View.{carriers_view}
use Rattle.markup_rules.specs.Attributes.{attributes_from, attributes_found}
use Rattle.markup_rules.specs.View.{judgements_view, attributes_found_tree}
use Rattle.markup_rules.proofs.attributes.attributes_found.Given as goal

abbrev pub invariant-loop-i : goal.invariant-loop-i
invariant-loop-i l =
    attributes_from (carriers_view l.all) (sc_view l.g l.s) l.tag (con_tree l.uses) (take l.i (attribute_list (attributes_tree l.attributes))) (attributes_found_tree l.now)
    (drop l.i (attribute_list (attributes_tree l.attributes))) (drop l.i (judgements_view l.judged))
    ≡ attributes_found (carriers_view l.all) (sc_view l.g l.s) l.tag (con_tree l.uses) (attribute_list (attributes_tree l.attributes)) (judgements_view l.judged)
