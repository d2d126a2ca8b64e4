use Rattle.std.proofs.Common.{◌≡◌, drop}
use Rattle.core_terms.specs.Lists.{item_list}
use Rattle.core_terms.specs.View.{items_tree}
use Rattle.markup_rules.specs.Links.{all_terms}
use Rattle.markup_rules.proofs.links.term_count.Given as goal

abbrev pub invariant-loop-i : goal.invariant-loop-i
invariant-loop-i l = all_terms (drop l.i (item_list (items_tree l.items))) ≡ all_terms (item_list (items_tree l.items))
