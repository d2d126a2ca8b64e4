use Rattle.std.proofs.Common.{take}
use Rattle.core_terms.specs.View.{symbols_view}
use Rattle.page_walk.specs.Adding.{Adds, path_text}
use Rattle.page_walk.proofs.links.write_path.Given as goal

abbrev pub invariant-loop-i : goal.invariant-loop-i
invariant-loop-i l = Adds l.initial.link l.link (path_text l.program (take l.i (symbols_view l.path)))
