use Rattle.std.proofs.Common.{◌≡◌, map, drop}
use Rattle.core_terms.specs.View.{decls_view}
use Rattle.plain_tree.specs.View.{plain_view}
use Rattle.source_names.specs.View.{declared_view, tables_view}
use Rattle.source_terms.specs.Programs.{after_modules}
use Rattle.source_terms.proofs.programs.read_modules.Given as goal

abbrev pub invariant-loop-i : goal.invariant-loop-i
invariant-loop-i l =
    after_modules (tables_view l.program) (declared_view l.initial.known) l.names
    (map plain_view l.trees) (decls_view l.program.decls)
    ≡ after_modules (tables_view l.program) (declared_view l.known) (drop l.i l.names)
    (map plain_view (drop l.i l.trees)) (drop l.next (decls_view l.program.decls))
