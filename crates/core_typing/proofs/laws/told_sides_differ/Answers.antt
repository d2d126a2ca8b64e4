use Rattle.core_typing.proofs.SidesDiffer.{told_sides_differ}
use Rattle.core_typing.proofs.laws.told_sides_differ.Goals as goal

pub returns : goal.returns
returns c = told_sides_differ
