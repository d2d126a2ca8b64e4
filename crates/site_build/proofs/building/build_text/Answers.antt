use Rattle.std.proofs.Common.{List, sym, subst}
use Rattle.std.proofs.lemmas.Result.{err_from_is_err_and}
use Rattle.surface_grammar.specs.Refusals.{deepest}
use Rattle.core_terms.specs.View.{program_view}
use Rattle.plain_projects.specs.Listed.{AreWhole}
use Rattle.project_sources.specs.Projects.{ProjectTrees}
use Rattle.project_sources.specs.View.{ListsModules, ListsProject}
use Rattle.project_sources.specs.declared.modules.ModuleSource.{ModuleSource}
use Rattle.site_build.specs.Sources.{IsProgramOf, IsProgramOfText, only_module}
use Rattle.site_build.specs.Causes.{IsCauseOfText}
use Rattle.site_build.specs.Faults.{IsOfModules}
use Rattle.site_build.proofs.Causes.{modules_text, unread_text}
use Rattle.site_build.proofs.Sources.{where_err, where_ok}
use Rattle.site_build.proofs.building.build_text.Goals as goal

pub returns-clause-source : goal.returns-clause-source
returns-clause-source g c =
    let (node, is, lists) = c.in_ok-tree.ensures.tree in
    where_ok c.site_of.result (λ s. (p : ProjectTrees) → ListsProject c.in_ok-sources.sources p → AreWhole p.modules → IsProgramOf p (program_view s.program))
    (λ s. IsProgramOfText c.args.bytes.now (program_view s.program))
    (λ s given. (node, is, given (only_module node) (c.in_ok-sources.ensures node lists) (record { tree = (deepest, is.whole); interface = tt }, tt)))
    c.site_of.ensures.source

pub returns-in_err-tree-clause-refused : goal.returns-in_err-tree-clause-refused
returns-in_err-tree-clause-refused g c =
    let p = err_from_is_err_and c.from_residual.result c.from_residual.ensures.1 in
    rw (p.1, p.2) (unread_text c.args.bytes.now c.in_err-tree.field-0.0 c.in_err-tree.ensures.refused)

pub returns-clause-refused : goal.returns-clause-refused
returns-clause-refused g c =
    let (node, is, lists) = c.in_ok-tree.ensures.tree in
    let modules : ListsModules c.as_slice.result.now (only_module node).modules =
    subst (λ (l : List ModuleSource). ListsModules l (only_module node).modules) (sym c.as_slice.ensures.value) (c.in_ok-sources.ensures node lists).modules in
    where_err c.site_of.result (λ fault. (p : ProjectTrees) → ListsProject c.in_ok-sources.sources p → AreWhole p.modules → IsOfModules p fault)
    (IsCauseOfText c.args.bytes.now)
    (λ fault given. modules_text c.args.bytes.now node fault is (c.in-None.ensures.few (only_module node).modules modules)
    (given (only_module node) (c.in_ok-sources.ensures node lists) (record { tree = (deepest, is.whole); interface = tt }, tt)))
    c.site_of.ensures.refused
