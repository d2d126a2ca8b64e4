use Rattle.site_build.proofs.ProjectLines.{line_behind}
use Rattle.site_build.proofs.many_tables.line_of.Goals as goal

pub returns : goal.returns
returns c =
    line_behind c.args.bytes.now c.in_ok-directives.modules.now c.args.name.now c.in_ok-directives.directives c.in_ok-before.before c.in_ok-before.field-0-1.now
    c.in_ok-directives.ensures.first c.in_ok-before.ensures.first
