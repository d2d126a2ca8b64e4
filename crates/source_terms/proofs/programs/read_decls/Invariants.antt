use Rattle.std.proofs.Common.{◌≡◌, map, drop}
use Rattle.core_terms.specs.View.{decls_view}
use Rattle.plain_tree.specs.View.{decl_tree}
use Rattle.source_names.specs.View.{declared_view, tables_view}
use Rattle.source_terms.specs.Programs.{after_decls}
use Rattle.source_terms.proofs.programs.read_decls.Given as goal

abbrev pub invariant-loop-i : goal.invariant-loop-i
invariant-loop-i l =
    after_decls (tables_view l.program) (declared_view l.initial.known) (map decl_tree l.decls)
    (drop l.place (decls_view l.program.decls))
    ≡ after_decls (tables_view l.program) (declared_view l.known) (map decl_tree (drop l.i l.decls))
    (drop l.next (decls_view l.program.decls))
