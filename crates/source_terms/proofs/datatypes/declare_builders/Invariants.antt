use Rattle.std.proofs.Common.{◌≡◌, map, drop}
use Rattle.plain_tree.specs.View.{builder_tree, builders_tree}
use Rattle.source_names.specs.View.{declared_view}
use Rattle.source_terms.specs.Declarations.{declare_builders}
use Rattle.source_terms.proofs.datatypes.declare_builders.Given as goal

abbrev pub invariant-loop-i : goal.invariant-loop-i
invariant-loop-i l =
    declare_builders l.symbol.number 0 (builders_tree l.source) (declared_view l.initial.known)
    ≡ declare_builders l.symbol.number l.i (map builder_tree (drop l.i l.source.items.items))
    (declared_view l.known)
