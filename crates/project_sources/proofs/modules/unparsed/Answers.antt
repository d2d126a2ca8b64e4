use Rattle.std.proofs.Common.{ap}
use Rattle.project_sources.specs.declared.fault.SourceFault.TheVariants.{Unparsed}
use Rattle.project_sources.specs.Texts.{no_node}
use Rattle.project_sources.proofs.modules.unparsed.Goals as goal

pub returns-in_default-Ok-clause-cause : goal.returns-in_default-Ok-clause-cause
returns-in_default-Ok-clause-cause c = λ part bytes ts text tokens exact.
    no_node text ts c.args.fault tokens exact (λ e. c.in_default-Ok.not-Memory-0 e) (ap
    (λ file. Unparsed file c.args.fault) (c.in_default-Ok.ensures))
