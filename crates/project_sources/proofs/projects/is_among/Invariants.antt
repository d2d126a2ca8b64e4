use Rattle.std.proofs.Common.{◌≡◌, drop}
use Rattle.project_files.specs.Projects.{is_among}
use Rattle.project_sources.proofs.projects.is_among.Given as goal

abbrev pub invariant-loop-i : goal.invariant-loop-i
invariant-loop-i l = is_among l.text (drop l.i l.others) ≡ is_among l.text l.others
