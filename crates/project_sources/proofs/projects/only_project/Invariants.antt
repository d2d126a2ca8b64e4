use Rattle.std.proofs.Common.{ℕ, List, Bor, drop}
use Rattle.std.specs.Option.{option_map}
use Rattle.project_sources.proofs.Names.{Found}
use Rattle.project_sources.proofs.projects.only_project.Given as goal

abbrev pub invariant-loop-i : goal.invariant-loop-i
invariant-loop-i l = Found (option_map (λ (x : Bor (List ℕ)). x.now) l.found) (drop l.i l.names) l.names
