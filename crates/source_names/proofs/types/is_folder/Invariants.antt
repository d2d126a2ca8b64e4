use Rattle.std.proofs.Common.{◌≡◌, map, drop}
use Rattle.source_names.specs.Standing.{is_one_of}
use Rattle.source_names.specs.View.{folder_symbol}
use Rattle.source_names.proofs.types.is_folder.Given as goal

abbrev pub invariant-loop-i : goal.invariant-loop-i
invariant-loop-i l =
    is_one_of (map folder_symbol l.folders.items.items) l.symbol
    ≡ is_one_of (map folder_symbol (drop l.i l.folders.items.items)) l.symbol
