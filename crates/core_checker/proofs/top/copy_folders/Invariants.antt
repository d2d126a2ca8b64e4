use Rattle.std.proofs.Common.{◌≡◌, map, take}
use Rattle.core_terms.specs.View.{folder_view}
use Rattle.core_checker.proofs.top.copy_folders.Given as goal

abbrev pub invariant-loop-i : goal.invariant-loop-i
invariant-loop-i l = map folder_view l.new.items ≡ map folder_view (take l.i l.fs.items)
