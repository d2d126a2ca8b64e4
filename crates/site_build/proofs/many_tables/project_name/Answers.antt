use Rattle.std.proofs.Common.{◌≡◌, ◌<◌, true, length, arith, sym, ap, ◌∙◌}
use Rattle.std.specs.Prelude.{codes}
use Rattle.std.proofs.lemmas.Str.Pattern.{ends_text}
use Rattle.project_sources.specs.Projects.{is_project_name}
use Rattle.site_build.proofs.ProjectNames.{only_there}
use Rattle.site_build.proofs.many_tables.project_name.Goals as goal

pub returns-then-ends_with : goal.returns-then-ends_with
returns-then-ends_with c = λ name only.
    let below : c.loop-i.i < length c.args.names.now = omega (arith, c.len-i-end.ensures, c.loop-i-test.true) in
    let is : is_project_name c.at-name.result.now ≡ true =
    ap is_project_name (sym c.as_str.ensures) ∙ sym (ends_text c.ends_with.result (codes ".urp") c.as_str.result.now c.ends_with.ensures.cases) ∙ c.if-ends_with.true in
    only_there c.args.names.now c.loop-i.i c.at-name.result.now name below c.at-name.ensures is only
