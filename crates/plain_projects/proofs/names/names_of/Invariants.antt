use Rattle.std.proofs.Common.{◌≡◌, ◌++◌, drop, map}
use Rattle.project_files.specs.Directives.{module_name}
use Rattle.project_sources.specs.declared.modules.ModuleSource.{ModuleSource}
use Rattle.plain_projects.proofs.names.names_of.Given as goal

abbrev pub invariant-loop-module : goal.invariant-loop-module
invariant-loop-module l =
    l.names ++ map (λ (m : ModuleSource). module_name m.line) (drop l.module-index l.modules) ≡ map (λ (m : ModuleSource). module_name m.line) l.modules
