-- A formed program of which no fault is told is accepted: no premise fails in it, so all of it is found.
use Rattle.core_typing.proofs.FoundPrograms.{found_is_accepted}
use Rattle.clear_programs.specs.Laws.{ClearIsAccepted}
use Rattle.clear_programs.proofs.NothingFails.{nothing_fails}
use Rattle.clear_programs.proofs.AllFound.{declarations_found, entries_differ}

pub clear_accepted : ClearIsAccepted
clear_accepted p formed clear = found_is_accepted p (record {
  formed = formed;
  declarations = declarations_found p (nothing_fails p clear);
  entries = entries_differ p (nothing_fails p clear);
})
