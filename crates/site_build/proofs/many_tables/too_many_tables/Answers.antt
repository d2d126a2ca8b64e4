use Rattle.site_build.proofs.TooMany.{told_at}
use Rattle.site_build.proofs.many_tables.too_many_tables.Goals as goal

pub returns-clause-line : goal.returns-clause-line
returns-clause-line g c =
    told_at (g.F.Files.told c.args.files.now) (g.F.Files.told c.file_of.new.files) c.args.dir.now c.in_ok-file.file c.args.name.now c.in_ok-line.line
    c.file_of.ensures.kept c.in_ok-file.ensures.name c.in_ok-line.ensures.line
