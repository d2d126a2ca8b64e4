use Rattle.std.proofs.Common.{◌≡◌, ◌==◌, drop}
use Rattle.std.specs.List.{list_any}
use Rattle.shown_types.proofs.known.is_folder.Given as goal

abbrev pub invariant-loop-folder : goal.invariant-loop-folder
invariant-loop-folder l =
    list_any (λ f. f == l.symbol.number) l.known.folders.now ≡ list_any (λ f. f == l.symbol.number) (drop l.folder-index l.known.folders.now)
