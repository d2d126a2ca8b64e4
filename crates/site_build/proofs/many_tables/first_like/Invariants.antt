use Rattle.std.proofs.Common.{◌+◌, ◌≤◌, length}
use Rattle.site_build.proofs.ProjectLines.{Passed}
use Rattle.site_build.proofs.many_tables.first_like.Given as goal

abbrev pub invariant-loop-line : goal.invariant-loop-line
invariant-loop-line l = Passed l.bytes l.line l.before l.rest × (l.before + length l.rest ≤ length l.bytes)

abbrev pub decreases-loop-line : goal.decreases-loop-line
decreases-loop-line l = length l.rest
