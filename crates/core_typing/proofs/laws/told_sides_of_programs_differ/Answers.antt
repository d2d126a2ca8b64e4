use Rattle.core_typing.proofs.ProgramSides.{program_sides_differ}
use Rattle.core_typing.proofs.laws.told_sides_of_programs_differ.Goals as goal

pub returns : goal.returns
returns c = program_sides_differ
