use Rattle.std.proofs.Common.{map, drop}
use Rattle.core_terms.specs.Lists.{folders_view}
use Rattle.core_terms.specs.View.{folder_view}
use Rattle.program_forms.specs.Symbols.{KindsDiffer}
use Rattle.program_forms.proofs.symbols.kinds_differ.Given as goal

abbrev pub invariant-loop-i : goal.invariant-loop-i
invariant-loop-i l = KindsDiffer (map folder_view (drop l.i l.fs.items.items)) → KindsDiffer (folders_view l.fs)
