use Rattle.std.proofs.Common.{ap}
use Rattle.project_sources.specs.declared.fault.SourceFault.TheVariants.{NotUtf8}
use Rattle.project_sources.specs.Texts.{no_text}
use Rattle.project_sources.proofs.modules.not_utf8.Goals as goal

pub returns-in-Ok-clause-cause : goal.returns-in-Ok-clause-cause
returns-in-Ok-clause-cause c = λ part bytes few bad. no_text few bad (ap NotUtf8 c.in-Ok.ensures)
