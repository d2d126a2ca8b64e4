use Rattle.std.proofs.Common.{◌≡◌, ℕ, List, codes, rules}
use Rattle.core_terms.specs.View.{program_view}
use Rattle.xml_trees.specs.Trees.{built, trees_of}
use Rattle.site_pages.specs.Unshown.{IsUnshown, named}
use Rattle.site_pages.proofs.Unshown.{found_too_long, tells}
use Rattle.site_pages.proofs.page.page_of_program.Goals as goal

pub returns-then-not-is_short-clause-refused : goal.returns-then-not-is_short-clause-refused
returns-then-not-is_short-clause-refused c accepted =
    let p = program_view c.args.program.now in
    let t = trees_of (built c.in_ok-page.page) in
    tells (λ (l : List ℕ). l ≡ named (codes "PageTooLong")) (IsUnshown p) c.named.result
    (λ line e. found_too_long p t line (c.in_ok-page.ensures.page accepted) (search rules) e) c.named.ensures
