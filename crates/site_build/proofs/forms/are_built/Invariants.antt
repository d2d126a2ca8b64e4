use Rattle.std.proofs.Common.{take}
use Rattle.site_build.proofs.Listed.{AreBuiltSources}
use Rattle.site_build.proofs.forms.are_built.Given as goal

abbrev pub invariant-loop-module : goal.invariant-loop-module
invariant-loop-module l = AreBuiltSources (take l.module-index l.modules)
