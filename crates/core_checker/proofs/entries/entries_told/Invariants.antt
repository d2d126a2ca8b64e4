use Rattle.std.proofs.Common.{map}
use Rattle.link_router.specs.View.{entry_view}
use Rattle.told_faults.specs.Told.{Picks}
use Rattle.type_faults.specs.View.{maybe_fault}
use Rattle.core_checker.specs.Keys.{HasKeys}
use Rattle.core_checker.specs.Twice.{ToldBefore}
use Rattle.core_checker.proofs.entries.entries_told.Given as goal

abbrev pub invariant-loop-j : goal.invariant-loop-j
invariant-loop-j l = record {
  told : Picks (ToldBefore (map entry_view l.entries.items) l.places.items l.callees.items l.j) (maybe_fault l.told);
  keys : HasKeys (map entry_view l.entries.items) l.j l.table;
}
