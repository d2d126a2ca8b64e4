use Rattle.std.proofs.Common.{◌≡◌, ℕ, List, Some}
use Rattle.site_pages.specs.Stopped.{Stops, line_of_run}
use Rattle.site_pages.proofs.Unshown.{run_stops, tells}
use Rattle.site_pages.proofs.page.no_page.Goals as goal

pub returns-in_default : goal.returns-in_default
returns-in_default c o h =
    tells (λ (l : List ℕ). line_of_run c.args.fault.now ≡ Some l) (Stops o) c.stopped.result
    (λ line is. run_stops c.args.fault.now o line h is) c.stopped.ensures
