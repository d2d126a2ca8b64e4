use Rattle.std.proofs.Common.{◌≡◌, ◌++◌, map, drop}
use Rattle.core_terms.specs.View.{folder_view}
use Rattle.core_typing.specs.Scopes.{folder_kinds}
use Rattle.kind_rules.specs.View.{basic_tree}
use Rattle.core_checker.proofs.top.add_folders.Given as goal

abbrev pub invariant-loop-i : goal.invariant-loop-i
invariant-loop-i l =
    map basic_tree l.all.items ++ folder_kinds (map folder_view (drop l.i l.fs.items))
    ≡ map basic_tree l.initial.all.items ++ folder_kinds (map folder_view l.fs.items)
