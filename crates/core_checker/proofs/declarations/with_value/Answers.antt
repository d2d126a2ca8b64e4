use Rattle.std.proofs.Common.{◌∷◌, []}
use Rattle.core_terms.specs.View.{named_tree}
use Rattle.judgements.specs.View.{judged_tree}
use Rattle.node_rules.specs.View.{found_tree}
use Rattle.core_checker.specs.View.{globals_view}
use Rattle.core_checker.proofs.Tops.{still_top, value_after}
use Rattle.core_checker.proofs.declarations.with_value.Goals as goal

pub returns-clause-after : goal.returns-clause-after
returns-clause-after c =
    value_after (named_tree c.args.n.now) c.args.g.now (globals_view c.with_type.new.g) c.args.s.now
    (judged_tree c.in_ok-found.found) (found_tree c.none_yet.result) (found_tree c.in_ok-past.past) c.requires
    c.in_ok-found.ensures c.none_yet.ensures c.in_ok-past.ensures c.in_ok-with_type.ensures

pub returns-clause-top : goal.returns-clause-top
returns-clause-top c =
    still_top ((named_tree c.args.n.now).3 ∷ []) (globals_view c.args.g.now) (globals_view c.with_type.new.g)
    c.args.s.now c.in_ok-with_type.ensures c.requires
