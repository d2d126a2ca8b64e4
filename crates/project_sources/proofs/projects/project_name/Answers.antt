use Rattle.std.proofs.lemmas.Result.{err_from_is_err_and}
use Rattle.project_sources.proofs.Naming.{name_found, none_named, folder_missing}
use Rattle.project_sources.proofs.Saying.{told_nothing}
use Rattle.project_sources.proofs.projects.project_name.Goals as goal

pub returns-in_err-copy-in-Some-clause-name : goal.returns-in_err-copy-in-Some-clause-name
returns-in_err-copy-in-Some-clause-name g c =
    let p = err_from_is_err_and c.from_residual.result c.from_residual.ensures.1 in rw p.1 tt

pub returns-in_err-copy-in-Some-clause-refused : goal.returns-in_err-copy-in-Some-clause-refused
returns-in_err-copy-in-Some-clause-refused g c =
    let p = err_from_is_err_and c.from_residual.result c.from_residual.ensures.1 in
    rw (p.1, p.2) (told_nothing (g.F.Files.told c.args.files.now))

pub returns-in-Some-clause-name : goal.returns-in-Some-clause-name
returns-in-Some-clause-name g c =
    name_found (g.F.Files.told c.args.files.now) c.args.dir.now c.in-Ok.names c.in-Some.name.now
    c.in_ok-copy-in-Some.field-0 c.in-Ok.ensures.names
    c.in-Some.ensures c.in_ok-copy-in-Some.ensures

pub returns-in-Ok-clause-refused : goal.returns-in-Ok-clause-refused
returns-in-Ok-clause-refused g c =
    none_named (g.F.Files.told c.args.files.now) c.args.dir.now c.in-Ok.names c.bad_folder.result c.in-Ok.ensures.names
    c.in-None.ensures c.bad_folder.ensures.cause

pub returns-in-Err-Missing-clause-refused : goal.returns-in-Err-Missing-clause-refused
returns-in-Err-Missing-clause-refused g c =
    folder_missing (g.F.Files.told c.args.files.now) c.args.dir.now c.bad_folder-in-Err-Missing.result
    (c.in-Err-Missing.ensures.missing (cc))
    c.bad_folder-in-Err-Missing.ensures.cause

pub returns-in-Err-Failed-clause-refused : goal.returns-in-Err-Failed-clause-refused
returns-in-Err-Failed-clause-refused g c = told_nothing (g.F.Files.told c.args.files.now)

pub returns-clause-refused : goal.returns-clause-refused
returns-clause-refused g c = told_nothing (g.F.Files.told c.args.files.now)
