use Rattle.std.proofs.Common.{ap}
use Rattle.project_sources.specs.declared.fault.SourceFault.TheVariants.{Unread}
use Rattle.project_sources.specs.Texts.{no_tokens}
use Rattle.project_sources.proofs.Texts.{told_tokens}
use Rattle.project_sources.proofs.modules.unread.Goals as goal

pub returns-in_default-Ok-clause-cause : goal.returns-in_default-Ok-clause-cause
returns-in_default-Ok-clause-cause c = λ part bytes text told.
    let t = told_tokens bytes c.args.fault (λ e. c.in_default-Ok.not-Memory-0 e) told in
    no_tokens text t.0 c.args.fault t.1 (ap (λ file. Unread file c.args.fault) (c.in_default-Ok.ensures))
