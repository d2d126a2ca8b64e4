use Rattle.std.proofs.Common.{◌≡◌, ◌≤◌, take}
use Rattle.site_build.proofs.Listed.{tables_of}
use Rattle.site_build.proofs.many_tables.first_beyond.Given as goal

abbrev pub invariant-loop-module : goal.invariant-loop-module
invariant-loop-module l = (l.tables ≡ tables_of (take l.module-index l.modules)) × (l.tables ≤ 1000)
