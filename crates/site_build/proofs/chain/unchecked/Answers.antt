use Rattle.std.proofs.Common.{List, string_bytes}
use Rattle.core_terms.specs.View.{program_view}
use Rattle.core_typing.specs.Tells.{ProgramTells}
use Rattle.project_sources.specs.Modules.{ModuleTrees}
use Rattle.project_sources.specs.Projects.{ProjectTrees}
use Rattle.project_sources.specs.View.{ListsModules}
use Rattle.site_build.specs.Faults.{IsOfProgram, IsRefusalAt}
use Rattle.site_build.specs.Sources.{IsProgramOf}
use Rattle.site_build.proofs.Refused.{unchecked}
use Rattle.site_build.proofs.Sources.{where_ok}
use Rattle.type_faults.specs.View.{fault_tree}
use Rattle.site_build.proofs.chain.unchecked.Goals as goal

pub returns-clause-refused : goal.returns-clause-refused
returns-clause-refused c =
    let modules = c.args.modules.now in
    let program = program_view c.args.refusal.now.program in
    let found = fault_tree c.args.refusal.now.fault in
    let told = c.in_ok-told.told in
    where_ok c.refused.result
    (λ fault. (ms : List ModuleTrees) → ListsModules modules ms → IsRefusalAt ms told.place (string_bytes told.text) fault)
    (λ fault. (p : ProjectTrees) → ListsModules modules p.modules → IsProgramOf p program → ProgramTells program found → IsOfProgram p fault)
    (λ fault given p lists is tells. unchecked p program is found tells told.place (string_bytes told.text) c.in_ok-told.ensures fault (given p.modules lists))
    c.refused.ensures.refused
