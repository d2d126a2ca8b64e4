use Rattle.std.proofs.Common.{drop, IsTrue}
use Rattle.program_forms.specs.Symbols.{unmarked}
use Rattle.program_forms.proofs.symbols.find_no_mark.Given as goal

abbrev pub invariant-loop-i : goal.invariant-loop-i
invariant-loop-i l = IsTrue (unmarked l.marks (drop l.i l.symbols)) → IsTrue (unmarked l.initial.marks l.symbols)
