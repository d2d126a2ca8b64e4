use Rattle.std.proofs.Common.{◌≡◌, drop}
use Rattle.shown_types.specs.Names.{is_taken}
use Rattle.shown_types.proofs.called.is_name.Given as goal

abbrev pub invariant-loop-i : goal.invariant-loop-i
invariant-loop-i l = is_taken l.called l.name ≡ is_taken (drop l.i l.called) l.name
