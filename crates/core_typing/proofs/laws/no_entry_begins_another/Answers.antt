use Rattle.core_typing.proofs.SiteRoutes.{none_begins}
use Rattle.core_typing.proofs.laws.no_entry_begins_another.Goals as goal

pub returns : goal.returns
returns c = none_begins
