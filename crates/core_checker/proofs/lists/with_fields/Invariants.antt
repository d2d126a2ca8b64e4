use Rattle.std.proofs.Common.{◌≡◌, drop, map}
use Rattle.core_terms.specs.Lists.{field_list}
use Rattle.core_terms.specs.View.{fields_tree}
use Rattle.judgements.specs.View.{judged_tree, sc_view}
use Rattle.markup_rules.specs.View.{judgements_view}
use Rattle.node_rules.specs.View.{row_tree}
use Rattle.judged_terms.specs.Listed.{fields_found}
use Rattle.core_checker.proofs.lists.with_fields.Given as goal

abbrev pub invariant-loop-j : goal.invariant-loop-j
invariant-loop-j l =
    fields_found (sc_view l.g l.s) (map judged_tree l.j-iterator.rest.items) (drop l.i (field_list (fields_tree l.fs))) (row_tree l.now)
    ≡ fields_found (sc_view l.g l.s) (judgements_view l.fn.found) (field_list (fields_tree l.fs)) (row_tree l.fn.past)
