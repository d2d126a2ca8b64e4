use Rattle.std.proofs.Common.{map, drop}
use Rattle.core_terms.specs.View.{decl_tree, program_view}
use Rattle.node_rules.specs.Locals.{Ls}
use Rattle.node_rules.specs.View.{found_tree}
use Rattle.core_checker.specs.Declarations.{DeclsJudge, ProgramJudges}
use Rattle.core_checker.specs.View.{IsTop, globals_view}
use Rattle.core_checker.proofs.declarations.declarations_found.Given as goal

abbrev pub invariant-loop-i : goal.invariant-loop-i
invariant-loop-i l = record {
  top : IsTop (globals_view l.globals) l.here;
  rest : (r : Ls) → DeclsJudge (globals_view l.globals) (found_tree l.past) (map decl_tree (drop l.i l.p.decls.items.items)) r
      → ProgramJudges (program_view l.p) r;
}
