use Rattle.std.proofs.Common.{List, subst, sym}
use Rattle.project_sources.specs.View.{ListsModules}
use Rattle.project_sources.specs.declared.modules.ModuleSource.{ModuleSource}
use Rattle.site_build.proofs.Refused.{uninferred}
use Rattle.site_build.proofs.chain.elaborated.Goals as goal

pub returns-in_ok-unelaborated-in-Err-clause-refused : goal.returns-in_ok-unelaborated-in-Err-clause-refused
returns-in_ok-unelaborated-in-Err-clause-refused g c p lists whole =
    let modules : ListsModules c.as_slice.result.now p.modules =
    subst (λ (l : List ModuleSource). ListsModules l p.modules) (sym c.as_slice.ensures.value) lists.modules in
    uninferred p c.in_ok-source.source (c.in_ok-source.ensures p lists whole) c.in-Err.refusal.names c.in-Err.refusal.fault c.in-Err.ensures.cause
    c.in_ok-unelaborated-in-Err.field-0 (c.in_ok-unelaborated-in-Err.ensures.refused p.modules modules)
