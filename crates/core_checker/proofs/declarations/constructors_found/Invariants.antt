use Rattle.std.proofs.Common.{◌≡◌, [], map, take, drop}
use Rattle.core_terms.specs.View.{constructor_view}
use Rattle.judgements.specs.View.{sc_view}
use Rattle.node_rules.specs.Locals.{none_yet}
use Rattle.node_rules.specs.View.{found_tree}
use Rattle.core_checker.specs.Declarations.{constructors_found}
use Rattle.core_checker.proofs.declarations.constructors_found.Given as goal

abbrev pub invariant-loop-i : goal.invariant-loop-i
invariant-loop-i l =
    constructors_found (sc_view l.g l.s) (map constructor_view (take l.i l.cs.items.items)) (found_tree l.now)
    (map constructor_view (drop l.i l.cs.items.items))
    ≡ constructors_found (sc_view l.g l.s) [] none_yet (map constructor_view l.cs.items.items)
