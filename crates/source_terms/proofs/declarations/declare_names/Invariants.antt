use Rattle.std.proofs.Common.{◌≡◌, map, drop}
use Rattle.plain_tree.specs.ExpView as plain
use Rattle.source_names.specs.View.{declared_view}
use Rattle.source_terms.specs.Declarations.{declare_group}
use Rattle.source_terms.proofs.declarations.declare_names.Given as goal

abbrev pub invariant-loop-i : goal.invariant-loop-i
invariant-loop-i l =
    declare_group (plain.named_list_from (map plain.named_tree l.source)) (declared_view l.initial.known)
    ≡ declare_group (plain.named_list_from (map plain.named_tree (drop l.i l.source))) (declared_view l.known)
