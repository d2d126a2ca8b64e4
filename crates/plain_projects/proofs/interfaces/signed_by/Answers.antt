use Rattle.std.proofs.Common.{ap, ◌∙◌}
use Rattle.plain_projects.specs.Said.{names_signed}
use Rattle.plain_projects.proofs.interfaces.signed_by.Goals as goal

pub returns : goal.returns
returns c = λ room n lists whole. c.in_ok-names_in.ensures ∙ ap names_signed (c.in_ok-interface.ensures room n lists whole)
