use Rattle.std.proofs.Common.{map, drop}
use Rattle.con_terms.specs.View.{con_tree, cons_tree, cons_from, pair_tree, pairs_tree, pairs_from}
use Rattle.con_terms.specs.declared.con.Pairs.{out-Pairs}
use Rattle.core_terms.specs.Leaves.{AllNamesThere, FieldNamesThere}
use Rattle.program_forms.proofs.constructors.+names_there.Given as goal

abbrev pub invariant-all_names_there-loop-i : goal.invariant-all_names_there-loop-i
invariant-all_names_there-loop-i l =
    AllNamesThere l.count (cons_from (map con_tree (drop l.i l.cs.items.items))) → AllNamesThere l.count (cons_tree l.cs)

abbrev pub invariant-field_names_there-loop-i : goal.invariant-field_names_there-loop-i
invariant-field_names_there-loop-i l =
    FieldNamesThere l.count (pairs_from (map pair_tree (drop l.i (out-Pairs l.ps).items.items))) → FieldNamesThere l.count (pairs_tree l.ps)
