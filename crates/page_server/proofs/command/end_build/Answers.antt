use Rattle.std.proofs.Common.{rules}
use Rattle.page_server.proofs.Inputs.{unbuilt}
use Rattle.page_server.proofs.command.end_build.Goals as goal

pub returns-clause-refused : goal.returns-clause-refused
returns-clause-refused g c done =
    unbuilt (g.F.Files.told c.args.files.now) c.args.dir.now _ _ c.in-Err.fault (search rules) (c.end_unbuilt.ensures.written done)
