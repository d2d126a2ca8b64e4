use Rattle.std.proofs.Common.{rules}
use Rattle.std.proofs.lemmas.Result.{err_from_is_err_and}
use Rattle.project_sources.proofs.Fronts.{content_read, content_refused, content_missing}
use Rattle.project_sources.proofs.Saying.{told_nothing}
use Rattle.project_sources.proofs.reading.read_in.Goals as goal

pub returns-in_err-path-clause-content : goal.returns-in_err-path-clause-content
returns-in_err-path-clause-content g c =
    let p = err_from_is_err_and c.from_residual.result c.from_residual.ensures.1 in rw p.1 tt

pub returns-in_err-path-clause-refused : goal.returns-in_err-path-clause-refused
returns-in_err-path-clause-refused g c =
    let p = err_from_is_err_and c.from_residual.result c.from_residual.ensures.1 in
    rw (p.1, p.2) (told_nothing (g.F.Files.told c.args.files.now))

pub returns-in_err-bytes-in-Ok-clause-content : goal.returns-in_err-bytes-in-Ok-clause-content
returns-in_err-bytes-in-Ok-clause-content g c =
    let p = err_from_is_err_and c.from_residual-in_err-bytes-in-Ok.result
    c.from_residual-in_err-bytes-in-Ok.ensures.1 in rw p.1 tt

pub returns-in_err-bytes-in-Ok-clause-refused : goal.returns-in_err-bytes-in-Ok-clause-refused
returns-in_err-bytes-in-Ok-clause-refused g c =
    let p = err_from_is_err_and c.from_residual-in_err-bytes-in-Ok.result
    c.from_residual-in_err-bytes-in-Ok.ensures.1 in
    rw (p.1, p.2) (content_refused (g.F.Files.told c.args.files.now) c.args.dir.now c.args.file.now
    c.as_str.result.now c.in-Ok.held.bytes
    c.in-Ok.held.more c.in_err-bytes-in-Ok.field-0.0 (search rules) c.in-Ok.ensures.front
    c.in_err-bytes-in-Ok.ensures.refused)

pub returns-in-Ok-clause-content : goal.returns-in-Ok-clause-content
returns-in-Ok-clause-content g c =
    content_read (g.F.Files.told c.args.files.now) c.args.dir.now c.args.file.now c.as_str.result.now
    c.in_ok-bytes-in-Ok.bytes c.in-Ok.held.bytes
    c.in-Ok.held.more (search rules) c.in-Ok.ensures.front c.in_ok-bytes-in-Ok.ensures.all

pub returns-in-Err-Missing-clause-content : goal.returns-in-Err-Missing-clause-content
returns-in-Err-Missing-clause-content g c =
    content_missing (g.F.Files.told c.args.files.now) c.args.dir.now c.args.file.now c.as_str.result.now (search rules)
    (c.in-Err-Missing.ensures.missing (cc))

pub returns-in-Err-Failed-clause-refused : goal.returns-in-Err-Failed-clause-refused
returns-in-Err-Failed-clause-refused g c = told_nothing (g.F.Files.told c.args.files.now)

pub returns-clause-refused : goal.returns-clause-refused
returns-clause-refused g c = told_nothing (g.F.Files.told c.args.files.now)
