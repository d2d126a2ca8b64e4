use Rattle.std.proofs.Common.{List, IfSome, subst, sym}
use Rattle.std.proofs.lemmas.Result.{err_from_is_err_and}
use Rattle.core_terms.specs.View.{program_view}
use Rattle.plain_projects.specs.Listed.{AreWhole}
use Rattle.project_sources.specs.Projects.{IsCause, ProjectTrees}
use Rattle.project_sources.specs.View.{IsProject, ListsModules, ListsProject}
use Rattle.project_sources.specs.declared.modules.ModuleSource.{ModuleSource}
use Rattle.site_build.specs.Causes.{IsCauseIn}
use Rattle.site_build.specs.Faults.{IsAtModule, IsOfModules}
use Rattle.site_build.specs.Lines.{of_source}
use Rattle.site_build.specs.Sources.{IsProgramIn, IsProgramOf}
use Rattle.site_build.proofs.Causes.{modules_in, tables_in_project, unread_in}
use Rattle.site_build.proofs.Sources.{where_both, where_err, where_ok, where_told, whole_modules}
use Rattle.site_build.proofs.building.build.Goals as goal

pub returns-clause-source : goal.returns-clause-source
returns-clause-source g c =
    let told = g.F.Files.told c.args.files.now in
    let dir = c.args.dir.now in
    let objects = c.args.objects.now in
    let sources = c.in_ok-sources.sources in
    where_ok c.site_of.result (λ s. (p : ProjectTrees) → ListsProject sources p → AreWhole p.modules → IsProgramOf p (program_view s.program))
    (λ s. IfSome told (λ files. IsProgramIn files dir objects (program_view s.program)))
    (λ s given. where_told told (λ files. IsProject files dir objects sources) (λ files. IsProgramIn files dir objects (program_view s.program))
    (λ files q. (q.0, q.1, given q.0 q.2 (whole_modules files dir q.0.said.modules q.0.modules q.1.modules)))
    c.in_ok-sources.ensures.whole)
    c.site_of.ensures.source

pub returns-in_err-sources-clause-refused : goal.returns-in_err-sources-clause-refused
returns-in_err-sources-clause-refused g c =
    let told = g.F.Files.told c.args.files.now in
    let dir = c.args.dir.now in
    let objects = c.args.objects.now in
    let fault = c.in_err-sources.field-0.0 in
    let p = err_from_is_err_and c.from_residual.result c.from_residual.ensures.1 in
    rw (p.1, p.2) (where_told told (λ files. IsCause files dir objects fault) (λ files. IsCauseIn files dir objects (of_source fault))
    (λ files h. unread_in files dir objects fault h) c.in_err-sources.ensures.told)

pub returns-clause-refused : goal.returns-clause-refused
returns-clause-refused g c =
    let told = g.F.Files.told c.args.files.now in
    let dir = c.args.dir.now in
    let objects = c.args.objects.now in
    let sources = c.in_ok-sources.sources in
    where_err c.site_of.result (λ fault. (p : ProjectTrees) → ListsProject sources p → AreWhole p.modules → IsOfModules p fault)
    (λ fault. IfSome told (λ files. IsCauseIn files dir objects fault))
    (λ fault given. where_told told (λ files. IsProject files dir objects sources) (λ files. IsCauseIn files dir objects fault)
    (λ files q.
    let modules : ListsModules c.as_slice.result.now q.0.modules =
    subst (λ (l : List ModuleSource). ListsModules l q.0.modules) (sym c.as_slice.ensures.value) q.2.modules in
    modules_in files dir objects q.0 fault q.1 (c.in-None.ensures.few q.0.modules modules)
    (given q.0 q.2 (whole_modules files dir q.0.said.modules q.0.modules q.1.modules)))
    c.in_ok-sources.ensures.whole)
    c.site_of.ensures.refused

pub returns-in-Some-clause-refused : goal.returns-in-Some-clause-refused
returns-in-Some-clause-refused g c =
    let told = g.F.Files.told c.args.files.now in
    let dir = c.args.dir.now in
    let objects = c.args.objects.now in
    let sources = c.in_ok-sources.sources in
    let name = c.in-Some.line.now in
    let fault = c.in_ok-too_many_tables-in-Some.field-0 in
    where_both told (g.F.Files.told c.read_sources.new.files) (λ files. IsProject files dir objects sources) (λ files. IsAtModule files dir name fault)
    (λ files. IsCauseIn files dir objects fault) c.read_sources.ensures.kept
    (λ files q at.
    let modules : ListsModules c.as_slice.result.now q.0.modules =
    subst (λ (l : List ModuleSource). ListsModules l q.0.modules) (sym c.as_slice.ensures.value) q.2.modules in
    tables_in_project files dir objects q.0 name fault q.1 (c.in-Some.ensures.beyond q.0.modules modules) at)
    c.in_ok-sources.ensures.whole c.in_ok-too_many_tables-in-Some.ensures.line
