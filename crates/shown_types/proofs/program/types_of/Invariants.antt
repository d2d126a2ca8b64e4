use Rattle.std.proofs.Common.{◌≡◌, ◌++◌, map, drop}
use Rattle.core_terms.specs.View.{decl_tree}
use Rattle.shown_types.specs.Programs.{all_declared}
use Rattle.shown_types.specs.View.{declared_view}
use Rattle.shown_types.proofs.program.types_of.Given as goal

abbrev pub invariant-loop-i : goal.invariant-loop-i
invariant-loop-i l =
    all_declared (map decl_tree l.decls.items.items) ≡ map declared_view l.made.items ++ all_declared (map decl_tree (drop l.i l.decls.items.items))
