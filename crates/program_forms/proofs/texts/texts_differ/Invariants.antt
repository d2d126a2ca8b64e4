use Rattle.std.proofs.Common.{◌≡◌, take}
use Rattle.program_forms.proofs.texts.texts_differ.Given as goal

abbrev pub invariant-loop-i : goal.invariant-loop-i
invariant-loop-i l = l.table ≡ take l.i l.texts
