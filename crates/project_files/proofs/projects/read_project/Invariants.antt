use Rattle.std.proofs.Common.{length}
use Rattle.project_files.specs.View.{said_by}
use Rattle.project_files.proofs.Reading.{Read}
use Rattle.project_files.proofs.projects.read_project.Given as goal

abbrev pub invariant-loop-rest : goal.invariant-loop-rest
invariant-loop-rest l = Read l.bytes l.rest (said_by l.project) l.number

abbrev pub decreases-loop-rest : goal.decreases-loop-rest
decreases-loop-rest l = length l.rest
