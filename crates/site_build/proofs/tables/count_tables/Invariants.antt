use Rattle.std.proofs.Common.{◌≡◌, ◌≤◌, take, count_by}
use Rattle.site_build.specs.Tables.{is_table}
use Rattle.site_build.proofs.tables.count_tables.Given as goal

abbrev pub invariant-loop-token : goal.invariant-loop-token
invariant-loop-token l = (l.count ≡ count_by is_table (take l.token-index l.tokens)) × (l.count ≤ l.token-index)
