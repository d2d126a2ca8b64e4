use Rattle.std.proofs.Common.{◌≡◌, ℕ, List, IfSome, subst}
use Rattle.std.specs.declared.option.Option.{Option}
use Rattle.project_sources.specs.Modules.{file_in}
use Rattle.site_build.proofs.TooMany.{line_named}
use Rattle.site_build.proofs.many_tables.line_in.Goals as goal

pub returns-in-Some-clause-line : goal.returns-in-Some-clause-line
returns-in-Some-clause-line g c =
    line_named (g.F.Files.told c.args.files.now) c.args.dir.now c.args.file.now c.as_str.result.now c.in-Ok-Some.bytes c.as_slice.result.now c.args.name.now
    c.as_bytes.result.now c.in-Some.line c.as_str.ensures c.as_slice.ensures c.as_bytes.ensures
    (subst (λ (o : Option (List ℕ)). IfSome (g.F.Files.told c.args.files.now) (λ files. file_in files c.args.dir.now c.as_str.result.now ≡ o))
    c.in-Ok-Some.field-0-is c.in-Ok-Some.ensures.content)
    c.in-Some.ensures
