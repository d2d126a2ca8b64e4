use Rattle.std.proofs.Common.{◌≡◌, map, drop}
use Rattle.con_terms.specs.View.{kind_tree}
use Rattle.core_typing.specs.Scopes.{folder_of}
use Rattle.core_terms.specs.View.{folder_view}
use Rattle.judgements.proofs.globals.folder_named.Given as goal

abbrev pub invariant-loop-i : goal.invariant-loop-i
invariant-loop-i l =
    folder_of (map folder_view l.g.folders.items) (kind_tree l.k)
    ≡ folder_of (map folder_view (drop l.i l.g.folders.items)) (kind_tree l.k)
