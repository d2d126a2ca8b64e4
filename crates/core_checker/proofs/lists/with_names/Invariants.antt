use Rattle.std.proofs.Common.{◌≡◌, drop, map}
use Rattle.core_terms.specs.Lists.{name_list}
use Rattle.core_terms.specs.View.{named_list_tree}
use Rattle.judgements.specs.View.{judged_tree, sc_view}
use Rattle.markup_rules.specs.View.{judgements_view}
use Rattle.node_rules.specs.View.{found_tree}
use Rattle.judged_terms.specs.Listed.{names_found}
use Rattle.core_checker.proofs.lists.with_names.Given as goal

abbrev pub invariant-loop-j : goal.invariant-loop-j
invariant-loop-j l =
    names_found (sc_view l.g l.s) (map judged_tree l.j-iterator.rest.items) (drop l.i (name_list (named_list_tree l.ns))) (found_tree l.now)
    ≡ names_found (sc_view l.g l.s) (judgements_view l.fn.found) (name_list (named_list_tree l.ns)) (found_tree l.fn.past)
