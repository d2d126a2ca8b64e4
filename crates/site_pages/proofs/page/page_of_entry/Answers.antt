use Rattle.std.proofs.Common.{rules, map}
use Rattle.core_terms.specs.View.{program_view}
use Rattle.link_router.specs.View.{call_view, entry_view, routes_view}
use Rattle.run_values.specs.View.{value_tree}
use Rattle.core_meaning.specs.Requests.{answered_within}
use Rattle.site_pages.proofs.Shown.{entry_there, gives_page}
use Rattle.site_pages.proofs.Unshown.{call_stops}
use Rattle.site_pages.proofs.page.page_of_entry.Goals as goal

pub returns-in-Ok-run-clause-page : goal.returns-in-Ok-run-clause-page
returns-in-Ok-run-clause-page c =
    gives_page (program_view c.args.program.now) (routes_view c.args.site.now.routes) (call_view c.args.call.now) c.args.number (entry_view c.in-Some.entry.now)
    (map value_tree c.as_slice.result.now) c.in-Ok-run.ran
    (entry_there c.args.site.now.routes c.deref.result.now c.args.call.now.entry c.in-Some.entry.now (search rules) (search rules) (search rules))
    (search rules) c.in-Ok-run.ensures.page

pub returns-in-Ok-clause-refused : goal.returns-in-Ok-clause-refused
returns-in-Ok-clause-refused c e is =
    let p = program_view c.args.program.now in
    let values = map value_tree c.as_slice.result.now in
    call_stops p (routes_view c.args.site.now.routes) (call_view c.args.call.now) c.args.number (entry_view c.in-Some.entry.now) values c.no_page.result
    (entry_there c.args.site.now.routes c.deref.result.now c.args.call.now.entry c.in-Some.entry.now (search rules) (search rules) (search rules))
    (search rules) (c.no_page.ensures (answered_within p 256 c.args.number values 1000000) c.in-Err-run.ensures.fault)
