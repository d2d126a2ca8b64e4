use Rattle.std.proofs.Common.{◌≡◌, map, drop}
use Rattle.core_terms.specs.View.{decl_tree, program_view}
use Rattle.source_names.specs.View.{tables_view}
use Rattle.inserted_terms.specs.Programs.{DeclsChosen, behind_all}
use Rattle.inserted_terms.specs.View.{reached_view}
use Rattle.inserted_terms.proofs.programs.behind_decls.Given as goal

abbrev pub invariant-loop-i : goal.invariant-loop-i
invariant-loop-i l = record {
  chosen : DeclsChosen (tables_view l.program) (program_view l.program) (reached_view l.reached)
      (map decl_tree (drop l.i l.ds))
      → DeclsChosen (tables_view l.program) (program_view l.program) (reached_view l.fn.s) (map decl_tree l.ds);
  behind : behind_all (tables_view l.program) (map decl_tree l.ds) (reached_view l.fn.s)
      ≡ behind_all (tables_view l.program) (map decl_tree (drop l.i l.ds)) (reached_view l.reached);
}
