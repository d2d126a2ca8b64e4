use Rattle.std.proofs.Common.{◌≡◌, ℕ, ◌≤◌, List, length, IfSome, subst}
use Rattle.std.specs.declared.option.Option.{Option}
use Rattle.project_sources.specs.Causes.{Says}
use Rattle.project_sources.specs.Modules.{file_in}
use Rattle.project_sources.specs.Projects.{SaysNoProject}
use Rattle.std.proofs.lemmas.Result.{err_from_is_err_and}
use Rattle.project_sources.proofs.Naming.{project_long, project_gone, project_says, project_refused}
use Rattle.project_sources.proofs.projects.read_project_file.Goals as goal

pub returns-in_err-name-clause-says : goal.returns-in_err-name-clause-says
returns-in_err-name-clause-says g c =
    let p = err_from_is_err_and c.from_residual.result c.from_residual.ensures.1 in rw p.1 tt

pub returns-in_err-name-clause-refused : goal.returns-in_err-name-clause-refused
returns-in_err-name-clause-refused g c =
    let p = err_from_is_err_and c.from_residual.result c.from_residual.ensures.1 in rw
    (p.1, p.2) c.in_err-name.ensures.refused

pub returns-in_err-bytes-clause-says : goal.returns-in_err-bytes-clause-says
returns-in_err-bytes-clause-says g c =
    let p = err_from_is_err_and c.from_residual-in_err-bytes.result c.from_residual-in_err-bytes.ensures.1 in rw p.1 tt

pub returns-in_err-bytes-clause-refused : goal.returns-in_err-bytes-clause-refused
returns-in_err-bytes-clause-refused g c =
    let p = err_from_is_err_and c.from_residual-in_err-bytes.result c.from_residual-in_err-bytes.ensures.1 in
    rw (p.1, p.2) (project_long (g.F.Files.told c.args.files.now)
    (g.F.Files.told c.project_name.new.files) c.args.dir.now c.in_ok-name.name
    c.as_str.result.now c.in_err-bytes.field-0.0 c.project_name.ensures.kept c.as_str.ensures c.in_ok-name.ensures.name
    c.in_err-bytes.ensures.refused)

pub returns-in-Some-clause-says : goal.returns-in-Some-clause-says
returns-in-Some-clause-says g c =
    project_says (g.F.Files.told c.args.files.now) (g.F.Files.told c.project_name.new.files) c.args.dir.now
    c.in_ok-name.name c.as_str.result.now
    c.in-Some.bytes c.as_slice.result.now c.project_of.result c.project_name.ensures.kept c.as_str.ensures
    c.as_slice.ensures
    c.in_ok-name.ensures.name
    (subst (λ (o : Option (List ℕ)). IfSome (g.F.Files.told c.project_name.new.files)
    (λ files. file_in files c.args.dir.now c.as_str.result.now ≡ o))
    c.in-Some.is c.in_ok-bytes.ensures.content)
    (subst (λ (o : Option (List ℕ)). IfSome o (λ bytes. length bytes ≤ 4194304)) c.in-Some.is c.in_ok-bytes.ensures.few)
    c.project_of.ensures.says

pub returns-in-Some-clause-refused : goal.returns-in-Some-clause-refused
returns-in-Some-clause-refused g c =
    project_refused (g.F.Files.told c.args.files.now) (g.F.Files.told c.project_name.new.files) c.args.dir.now
    c.in_ok-name.name c.as_str.result.now
    c.in-Some.bytes c.as_slice.result.now c.project_of.result c.project_name.ensures.kept c.as_str.ensures
    c.as_slice.ensures
    c.in_ok-name.ensures.name
    (subst (λ (o : Option (List ℕ)). IfSome (g.F.Files.told c.project_name.new.files)
    (λ files. file_in files c.args.dir.now c.as_str.result.now ≡ o))
    c.in-Some.is c.in_ok-bytes.ensures.content)
    (subst (λ (o : Option (List ℕ)). IfSome o (λ bytes. length bytes ≤ 4194304)) c.in-Some.is c.in_ok-bytes.ensures.few)
    c.project_of.ensures.refused

pub returns-in-None-clause-refused : goal.returns-in-None-clause-refused
returns-in-None-clause-refused g c =
    project_gone (g.F.Files.told c.args.files.now) (g.F.Files.told c.project_name.new.files) c.args.dir.now
    c.in_ok-name.name c.as_str.result.now
    (λ files. Says (SaysNoProject files c.args.dir.now) c.bad_folder.result) c.project_name.ensures.kept
    c.as_str.ensures c.in_ok-name.ensures.name
    (subst (λ (o : Option (List ℕ)). IfSome (g.F.Files.told c.project_name.new.files)
    (λ files. file_in files c.args.dir.now c.as_str.result.now ≡ o))
    c.in-None.is c.in_ok-bytes.ensures.content)
