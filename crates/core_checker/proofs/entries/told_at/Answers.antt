use Rattle.std.proofs.Common.{map}
use Rattle.link_router.specs.View.{entry_view}
use Rattle.core_checker.proofs.EntryFaults.{picks_twice}
use Rattle.core_checker.proofs.entries.told_at.Goals as goal

pub returns-in_ok-name : goal.returns-in_ok-name
returns-in_ok-name c =
    picks_twice (map entry_view c.args.entries.now.items) c.args.places.now.items c.args.callees.now.items c.args.j
    c.in_ok-place.place c.in_ok-name.name (c.requires.twice.0 c.if-twice.true) c.in_ok-place.ensures c.in_ok-name.ensures
