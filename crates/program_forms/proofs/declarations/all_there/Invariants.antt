use Rattle.std.proofs.Common.{map, drop}
use Rattle.core_terms.specs.Leaves.{AllThere}
use Rattle.core_terms.specs.View.{symbols_view}
use Rattle.program_forms.proofs.declarations.all_there.Given as goal

abbrev pub invariant-loop-i : goal.invariant-loop-i
invariant-loop-i l =
    AllThere l.count (map (λ s. s.number) (drop l.i l.ss.items.items)) → AllThere l.count (symbols_view l.ss)
