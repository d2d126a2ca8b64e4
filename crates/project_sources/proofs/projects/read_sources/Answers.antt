use Rattle.std.proofs.lemmas.Result.{err_from_is_err_and}
use Rattle.project_sources.specs.declared.projects.Sources.{Sources}
use Rattle.project_sources.proofs.Gathering.{file_refused, foreign_refused, modules_refused, project_is}
use Rattle.project_sources.proofs.projects.read_sources.Goals as goal

pub returns-in_err-project-clause-whole : goal.returns-in_err-project-clause-whole
returns-in_err-project-clause-whole g c =
    let p = err_from_is_err_and c.from_residual.result c.from_residual.ensures.1 in rw p.1 tt

pub returns-in_err-project-clause-told : goal.returns-in_err-project-clause-told
returns-in_err-project-clause-told g c =
    let p = err_from_is_err_and c.from_residual.result c.from_residual.ensures.1 in
    rw (p.1, p.2) (file_refused (g.F.Files.told c.args.files.now) c.args.dir.now c.args.objects.now
    c.in_err-project.field-0.0 c.in_err-project.ensures.refused)

pub returns-in_err-knows_foreign-clause-whole : goal.returns-in_err-knows_foreign-clause-whole
returns-in_err-knows_foreign-clause-whole g c =
    let p = err_from_is_err_and c.from_residual-in_err-knows_foreign.result
    c.from_residual-in_err-knows_foreign.ensures.1 in rw p.1 tt

pub returns-in_err-knows_foreign-clause-told : goal.returns-in_err-knows_foreign-clause-told
returns-in_err-knows_foreign-clause-told g c =
    let p = err_from_is_err_and c.from_residual-in_err-knows_foreign.result
    c.from_residual-in_err-knows_foreign.ensures.1 in
    rw (p.1, p.2) (foreign_refused (g.F.Files.told c.args.files.now) c.args.dir.now c.args.objects.now
    c.as_slice.result.now c.in_ok-project.project
    c.in_err-knows_foreign.field-0.0 c.as_slice.ensures.value c.in_ok-project.ensures.says
    c.in_err-knows_foreign.ensures.unknown)

pub returns-in_err-modules-clause-whole : goal.returns-in_err-modules-clause-whole
returns-in_err-modules-clause-whole g c =
    let p = err_from_is_err_and c.from_residual-in_err-modules.result c.from_residual-in_err-modules.ensures.1 in rw
    p.1 tt

pub returns-in_err-modules-clause-told : goal.returns-in_err-modules-clause-told
returns-in_err-modules-clause-told g c =
    let p = err_from_is_err_and c.from_residual-in_err-modules.result c.from_residual-in_err-modules.ensures.1 in
    rw (p.1, p.2) (modules_refused (g.F.Files.told c.args.files.now)
    (g.F.Files.told c.read_project_file.new.files) c.args.dir.now
    c.args.objects.now c.as_slice.result.now c.as_slice-2.result.now c.in_ok-project.project c.in_err-modules.field-0.0
    c.read_project_file.ensures.kept c.as_slice.ensures.value c.as_slice-2.ensures.value c.in_ok-project.ensures.says
    c.in_ok-knows_foreign.ensures.known c.in_err-modules.ensures.refused)

pub returns-clause-whole : goal.returns-clause-whole
returns-clause-whole g c =
    let sources : Sources = record { project = c.in_ok-project.project; modules = c.in_ok-modules.modules } in
    project_is (g.F.Files.told c.args.files.now) (g.F.Files.told c.read_project_file.new.files) c.args.dir.now
    c.args.objects.now
    c.as_slice.result.now c.as_slice-2.result.now sources c.read_project_file.ensures.kept c.as_slice.ensures.value
    c.as_slice-2.ensures.value
    c.in_ok-project.ensures.says c.in_ok-knows_foreign.ensures.known c.in_ok-modules.ensures.modules
