use Rattle.std.proofs.Common.{◌≡◌, drop, map}
use Rattle.con_terms.specs.View.{kind_tree}
use Rattle.core_terms.specs.View.{folder_view}
use Rattle.core_typing.specs.Scopes.{folder_of}
use Rattle.inserted_terms.proofs.items.folder_symbol.Given as goal

abbrev pub invariant-loop-i : goal.invariant-loop-i
invariant-loop-i l =
    folder_of (map folder_view l.program.folders.items.items) (kind_tree l.k)
    ≡ folder_of (map folder_view (drop l.i l.folders)) (kind_tree l.k)
