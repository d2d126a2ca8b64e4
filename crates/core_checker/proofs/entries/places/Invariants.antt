use Rattle.std.proofs.Common.{◌≡◌, ◌++◌, map, drop}
use Rattle.core_terms.specs.View.{decl_tree, decls_view}
use Rattle.core_checker.specs.Twice.{all_places}
use Rattle.core_checker.proofs.entries.places.Given as goal

abbrev pub invariant-loop-i : goal.invariant-loop-i
invariant-loop-i l =
    l.all.items ++ all_places (map decl_tree (drop l.i l.p.decls.items.items))
    ≡ all_places (decls_view l.p.decls)
