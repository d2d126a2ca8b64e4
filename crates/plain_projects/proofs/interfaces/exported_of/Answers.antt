use Rattle.std.proofs.Common.{sym, subst}
use Rattle.plain_projects.specs.Listed.{AreExported}
use Rattle.plain_projects.proofs.Sources.{last_exports}
use Rattle.plain_projects.proofs.interfaces.exported_of.Goals as goal

pub returns-in_ok-exported_by-in-Some : goal.returns-in_ok-exported_by-in-Some
returns-in_ok-exported_by-in-Some c =
    let names = c.in_ok-exported_by-in-Some.field-0 in
    subst (λ l. AreExported l names) (sym c.in-Some.ensures.cases.0) (last_exports c.in-Some._before.now c.in-Some.last.now names c.in_ok-exported_by-in-Some.ensures)
