use Rattle.std.proofs.Common.{◌≤◌, length, map, drop}
use Rattle.core_terms.specs.View.{program_view}
use Rattle.source_names.specs.View.{tables_view}
use Rattle.inserted_terms.specs.Programs.{ModulesChosen}
use Rattle.inserted_terms.specs.View.{count_of, reached_view}
use Rattle.inserted_terms.proofs.programs.modules_chosen.Given as goal

abbrev pub invariant-loop-i : goal.invariant-loop-i
invariant-loop-i l = record {
  within : l.next ≤ length l.decls;
  chosen : ModulesChosen (tables_view l.program) (program_view l.program) (reached_view l.reached) (drop l.i l.names)
      (map count_of (drop l.i l.trees)) (drop l.next (program_view l.program).decls)
      → ModulesChosen (tables_view l.program) (program_view l.program) (reached_view l.fn.s) l.names
      (map count_of l.trees) (program_view l.program).decls;
}
