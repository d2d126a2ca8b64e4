use Rattle.std.proofs.Common.{take}
use Rattle.project_sources.specs.Projects.{AllThere}
use Rattle.project_sources.proofs.projects.knows_foreign.Given as goal

abbrev pub invariant-loop-name : goal.invariant-loop-name
invariant-loop-name l = AllThere l.objects (take l.name-index l.names)
