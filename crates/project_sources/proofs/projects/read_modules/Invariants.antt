use Rattle.std.proofs.Common.{◌≡◌, ◌≤◌, take, IfSome}
use Rattle.project_sources.specs.View.{AreModuleSources}
use Rattle.project_sources.proofs.projects.read_modules.Given as goal

abbrev pub invariant-loop-line : goal.invariant-loop-line
invariant-loop-line g l = record {
  kept : g.F.Files.told l.files ≡ g.F.Files.told l.initial.files;
  later : g.F.Files.faults l.initial.files ≤ g.F.Files.faults l.files;
  read : IfSome (g.F.Files.told l.initial.files) (λ files. AreModuleSources files l.dir
      (take l.line-index l.lines) l.modules.items);
}
