use Rattle.std.proofs.Common.{map}
use Rattle.core_terms.specs.View.{named_list_tree}
use Rattle.judgements.specs.View.{judged_tree}
use Rattle.node_rules.specs.View.{found_tree}
use Rattle.core_checker.specs.Declarations.{types_of}
use Rattle.core_checker.specs.View.{globals_view}
use Rattle.core_checker.proofs.Tops.{on_ok, still_top, values_after}
use Rattle.core_checker.proofs.declarations.with_values.Goals as goal

pub returns-clause-after : goal.returns-clause-after
returns-clause-after c =
    values_after (named_list_tree c.args.ns.now) (globals_view c.args.g.now) c.with_types.new.g c.args.s.now
    (map judged_tree c.in_ok-found.found.items.items) (found_tree c.none_yet.result) c.with_names.result c.requires
    c.in_ok-with_types.ensures c.in_ok-found.ensures c.none_yet.ensures c.with_names.ensures

pub returns-clause-top : goal.returns-clause-top
returns-clause-top c =
    on_ok c.with_names.result (still_top (types_of (named_list_tree c.args.ns.now)) (globals_view c.args.g.now)
    (globals_view c.with_types.new.g) c.args.s.now c.in_ok-with_types.ensures c.requires)
