use Rattle.site_build.proofs.TooMany.{file_named}
use Rattle.site_build.proofs.many_tables.file_of.Goals as goal

pub returns-in-Some-clause-name : goal.returns-in-Some-clause-name
returns-in-Some-clause-name g c =
    file_named (g.F.Files.told c.args.files.now) c.args.dir.now c.in-Ok.names c.in-Some.name.now c.in_ok-copy-in-Some.field-0 c.in-Ok.ensures.names
    c.in-Some.ensures c.in_ok-copy-in-Some.ensures
