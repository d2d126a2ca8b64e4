use Rattle.std.proofs.Common.{refl}
use Rattle.project_sources.proofs.projects.project_of.Goals as goal

pub returns-in-Err-BadLine-clause-refused : goal.returns-in-Err-BadLine-clause-refused
returns-in-Err-BadLine-clause-refused c =
    (c.in-Err-BadLine.line, rw c.in-Err-BadLine.field-0-is at c.in-Err-BadLine.ensures.refused, refl)
