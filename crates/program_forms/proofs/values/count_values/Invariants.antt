use Rattle.std.proofs.Common.{map, drop, ◌+◌, ◌≤◌}
use Rattle.core_terms.specs.View.{decl_tree, decls_view}
use Rattle.program_forms.specs.Values.{values_counted}
use Rattle.program_forms.proofs.values.count_values.Given as goal

abbrev pub invariant-loop-i : goal.invariant-loop-i
invariant-loop-i l =
    l.total + values_counted (map decl_tree (drop l.i l.ds.items.items)) ≤ values_counted (decls_view l.ds)
