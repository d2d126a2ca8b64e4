use Rattle.std.proofs.Common.{◌≡◌, map, drop}
use Rattle.core_terms.specs.Lists.{constructors_view}
use Rattle.core_terms.specs.View.{constructor_view}
use Rattle.plain_tree.specs.View.{builder_tree, builders_tree}
use Rattle.source_names.specs.View.{scope_view}
use Rattle.source_terms.specs.Alike.{each}
use Rattle.source_terms.specs.Declarations.{reads_builder}
use Rattle.source_terms.proofs.datatypes.are_builders.Given as goal

abbrev pub invariant-loop-i : goal.invariant-loop-i
invariant-loop-i l =
    each (reads_builder (scope_view l.s)) (builders_tree l.source) (constructors_view l.made)
    ≡ each (reads_builder (scope_view l.s)) (map builder_tree (drop l.i l.source.items.items))
    (map constructor_view (drop l.i l.made.items.items))
