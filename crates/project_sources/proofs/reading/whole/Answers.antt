use Rattle.std.proofs.Common.{ap}
use Rattle.std.proofs.lemmas.Result.{err_from_is_err_and}
use Rattle.project_sources.specs.declared.fault.SourceFault.TheVariants.{FileTooLong}
use Rattle.project_sources.proofs.Fronts.{read_front, read_whole}
use Rattle.project_sources.proofs.reading.whole.Goals as goal

pub returns-in_err-file-clause-all : goal.returns-in_err-file-clause-all
returns-in_err-file-clause-all c = λ content front.
    let p = err_from_is_err_and c.from_residual.result c.from_residual.ensures.1 in rw p.1 tt

pub returns-in_err-file-clause-refused : goal.returns-in_err-file-clause-refused
returns-in_err-file-clause-refused c = λ content front.
    let p = err_from_is_err_and c.from_residual.result c.from_residual.ensures.1 in rw (p.1, p.2) tt

pub returns-then-more-clause-refused : goal.returns-then-more-clause-refused
returns-then-more-clause-refused c = λ content front.
    read_front content c.args.held.bytes c.args.held.more c.args.file.now
    (FileTooLong c.in_ok-file.file) front c.if-more.true
    (ap FileTooLong c.in_ok-file.ensures)

pub returns-clause-all : goal.returns-clause-all
returns-clause-all c = λ content front. read_whole content c.args.held.bytes c.args.held.more front c.if-more.false
