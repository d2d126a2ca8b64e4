use Rattle.std.proofs.Common.{◌≡◌, ◌≤◌, Bool, length, take, drop}
use Rattle.con_terms.specs.Trees.{Cn}
use Rattle.con_terms.specs.View.{con_tree, cons_tree, pairs_tree}
use Rattle.con_terms.specs.declared.con.Con.TheViews.{out-Pairs}
use Rattle.plain_tree.specs.ConView as plain
use Rattle.plain_tree.specs.declared.con.ConForm.TheViews as views
use Rattle.source_names.specs.Reading.{reads_apps, reads_cats, reads_cons, reads_con_fields}
use Rattle.source_names.specs.View.{scope_view}
use Rattle.source_names.proofs.Walked.{sources, source_fields, cons, pairs}
use Rattle.source_names.proofs.cons.+reads_con.Given as goal

abbrev pub invariant-before_arguments-loop-left : goal.invariant-before_arguments-loop-left
invariant-before_arguments-loop-left l = record {
  within : l.left ≤ length (views.out-Cons l.more).items.items;
  same : (first : Cn → Bool) → reads_apps (scope_view l.s) (plain.cons_tree l.more) first (con_tree l.con)
      ≡ reads_apps (scope_view l.s) (sources (take l.left (views.out-Cons l.more).items.items)) first (con_tree l.at);
}

abbrev pub decreases-before_arguments-loop-left : goal.decreases-before_arguments-loop-left
decreases-before_arguments-loop-left l = l.left

abbrev pub invariant-before_rows-loop-left : goal.invariant-before_rows-loop-left
invariant-before_rows-loop-left l = record {
  within : l.left ≤ length (views.out-Cons l.more).items.items;
  same : (first : Cn → Bool) → reads_cats (scope_view l.s) (plain.cons_tree l.more) first (con_tree l.con)
      ≡ reads_cats (scope_view l.s) (sources (take l.left (views.out-Cons l.more).items.items)) first (con_tree l.at);
}

abbrev pub decreases-before_rows-loop-left : goal.decreases-before_rows-loop-left
decreases-before_rows-loop-left l = l.left

abbrev pub invariant-reads_cons-loop-i : goal.invariant-reads_cons-loop-i
invariant-reads_cons-loop-i l =
    reads_cons (scope_view l.s) (plain.cons_tree l.cs) (cons_tree l.cons)
    ≡ reads_cons (scope_view l.s) (sources (drop l.i (views.out-Cons l.cs).items.items))
    (cons (drop l.i l.cons.items.items))

abbrev pub invariant-reads_fields-loop-i : goal.invariant-reads_fields-loop-i
invariant-reads_fields-loop-i l =
    reads_con_fields (scope_view l.s) (plain.con_fields_tree l.fields) (pairs_tree l.pairs)
    ≡ reads_con_fields (scope_view l.s) (source_fields (drop l.i (views.out-ConFields l.fields).items.items))
    (pairs (drop l.i (out-Pairs l.pairs).items.items))
