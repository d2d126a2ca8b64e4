use Rattle.std.proofs.Common.{◌≡◌, map, take}
use Rattle.core_terms.specs.View.{folder_view}
use Rattle.shown_types.specs.Programs.{folder_symbol}
use Rattle.shown_types.proofs.program.folders_of.Given as goal

abbrev pub invariant-loop-i : goal.invariant-loop-i
invariant-loop-i l = l.made.items ≡ map folder_symbol (map folder_view (take l.i l.folders.items.items))
