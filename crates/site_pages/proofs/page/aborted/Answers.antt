use Rattle.std.proofs.Common.{◌≡◌, ℕ, List, codes, rules}
use Rattle.site_pages.specs.Stopped.{Stops}
use Rattle.site_pages.specs.Unshown.{named}
use Rattle.site_pages.proofs.Unshown.{abort_is_long, abort_is_short, tells}
use Rattle.site_pages.proofs.page.aborted.Goals as goal

pub returns-in-Ok-true : goal.returns-in-Ok-true
returns-in-Ok-true c o h =
    tells (λ (l : List ℕ). l ≡ named (codes "Aborted")) (Stops o) c.named.result
    (λ line e. abort_is_short c.args.page.now o line h (search rules) e) c.named.ensures

pub returns-in-Ok-false : goal.returns-in-Ok-false
returns-in-Ok-false c o h =
    tells (λ (l : List ℕ). l ≡ named (codes "PageTooLong")) (Stops o) c.named-in-Ok-false.result
    (λ line e. abort_is_long c.args.page.now o line h (search rules) e) c.named-in-Ok-false.ensures
