use Rattle.std.proofs.Common.{arith, rules}
use Rattle.core_terms.specs.View.{program_view}
use Rattle.link_router.specs.View.{call_view, routes_view}
use Rattle.site_pages.proofs.Shown.{main_is_shown}
use Rattle.site_pages.proofs.Unshown.{main_called, main_refused, main_strays}
use Rattle.site_pages.proofs.page.page_of_main.Goals as goal

pub returns-in-Some-clause-page : goal.returns-in-Some-clause-page
returns-in-Some-clause-page c =
    main_is_shown (program_view c.args.program.now) (routes_view c.in_ok-site.site.routes) c.in_ok-site.site.callees.items c.deref.result.now (call_view c.in-Ok.call)
    c.in-Some.number.now c.in_ok-path.path c.page_of_entry.result c.in_ok-site.ensures (search rules) (search rules) (search rules) (search rules) (search rules) c.page_of_entry.ensures.page

pub returns-in-Some-clause-refused : goal.returns-in-Some-clause-refused
returns-in-Some-clause-refused c =
    main_refused (program_view c.args.program.now) (routes_view c.in_ok-site.site.routes) c.in_ok-site.site.callees.items c.deref.result.now (call_view c.in-Ok.call)
    c.in-Some.number.now c.in_ok-path.path c.page_of_entry.result c.in_ok-site.ensures (search rules) (search rules) (search rules) (search rules) (search rules) c.page_of_entry.ensures.refused

pub returns-in-Ok-clause-refused : goal.returns-in-Ok-clause-refused
returns-in-Ok-clause-refused c =
    main_called (program_view c.args.program.now) (routes_view c.in_ok-site.site.routes) c.in_ok-site.site.callees.items c.deref.result.now (call_view c.in-Ok.call)
    c.in_ok-path.path c.named.result c.in_ok-site.ensures (search rules) (search rules) (search rules) (search (arith, rules))

pub returns-clause-refused : goal.returns-clause-refused
returns-clause-refused c accepted =
    main_strays (program_view c.args.program.now) (routes_view c.in_ok-site.site.routes) c.in_ok-site.site.callees.items c.in_ok-path.path c.in-Err.fault c.astray.result
    c.in_ok-site.ensures (search rules) (search rules) c.astray.ensures
