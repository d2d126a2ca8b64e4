use Rattle.std.proofs.Common.{map, arith}
use Rattle.std.proofs.lemmas.List.{length-map}
use Rattle.core_terms.specs.View.{program_view}
use Rattle.link_router.specs.View.{entry_view, routes_view}
use Rattle.type_faults.specs.View.{maybe_fault}
use Rattle.core_checker.proofs.EntryFaults.{none_before, one_more, entries_all}
use Rattle.core_checker.proofs.EntryKeys.{keys_none}
use Rattle.core_checker.proofs.entries.entries_told.Goals as goal

pub loop-j-init : goal.loop-j-init
loop-j-init c = record {
  told = none_before (map entry_view c.in_ok-site.site.routes.entries.items) c.in_ok-places.places.items c.in_ok-site.site.callees.items;
  keys = keys_none (map entry_view c.in_ok-site.site.routes.entries.items) _;
}

pub loop-j-preserved : goal.loop-j-preserved
loop-j-preserved c = record {
  told = one_more (map entry_view c.in_ok-site.site.routes.entries.items) c.in_ok-places.places.items c.in_ok-site.site.callees.items c.loop-j.j
      (maybe_fault c.loop-j.told) (maybe_fault c.in_ok-second.second) (maybe_fault c.first-told.result)
      c.first-told.ensures c.loop-j.invariant.told c.in_ok-second.ensures;
  keys = c.in_ok-twice.ensures.noted;
}

pub returns : goal.returns
returns c =
    let xs = c.in_ok-site.site.routes.entries in
    entries_all (program_view c.args.p.now) (routes_view c.in_ok-site.site.routes) c.in_ok-site.site.callees.items c.in_ok-places.places.items c.loop-j.j
    (maybe_fault c.loop-j.told) c.in_ok-site.ensures c.in_ok-places.ensures (omega (arith, xs.ok.0, length-map xs.items entry_view)) c.loop-j.invariant.told
