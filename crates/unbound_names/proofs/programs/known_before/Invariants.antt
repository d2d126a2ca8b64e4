use Rattle.std.proofs.Common.{◌≡◌, map}
use Rattle.plain_tree.specs.View.{plain_view}
use Rattle.source_names.specs.View.{declared_view}
use Rattle.unbound_names.specs.Programs.{declared_before}
use Rattle.unbound_names.proofs.programs.known_before.Given as goal

abbrev pub invariant-loop-i : goal.invariant-loop-i
invariant-loop-i l = declared_view l.known ≡ declared_before l.modules (map plain_view l.trees) l.i
