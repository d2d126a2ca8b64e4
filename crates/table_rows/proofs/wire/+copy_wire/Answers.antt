use Rattle.std.proofs.Common.{rules}
use Rattle.table_rows.specs.declared.wire.Wire.TheViews.{the_lemmas}
use Rattle.table_rows.proofs.Lists.{tagged_same}
use Rattle.table_rows.proofs.wire.+copy_wire.Goals as goal

pub copy_wire-returns-in_ok-held-in-Some : goal.copy_wire-returns-in_ok-held-in-Some
copy_wire-returns-in_ok-held-in-Some t c = search (rules, tagged_same, the_lemmas)
