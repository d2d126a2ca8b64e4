use Rattle.std.proofs.Common.{map, drop}
use Rattle.core_terms.specs.Lists.{columns_view}
use Rattle.core_terms.specs.View.{column_view}
use Rattle.program_forms.specs.Columns.{ColumnsThere}
use Rattle.program_forms.proofs.declarations.columns_there.Given as goal

abbrev pub invariant-loop-i : goal.invariant-loop-i
invariant-loop-i l =
    ColumnsThere l.count (map column_view (drop l.i l.cs.items.items)) → ColumnsThere l.count (columns_view l.cs)
