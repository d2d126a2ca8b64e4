use Rattle.std.proofs.Common.{◌≡◌, ◌+◌, ◌*◌, max, map, drop}
use Rattle.con_terms.specs.declared.con.Con.TheViews.{size-Con, size-Cons, size-Pairs}
use Rattle.con_terms.specs.View.{con_tree, cons_tree, cons_from, pair_tree, pairs_tree, pairs_from, kind_tree}
use Rattle.con_terms.specs.declared.con.Pairs.{out-Pairs}
use Rattle.con_terms.specs.declared.con.Cons.{out-Cons}
use Rattle.kind_rules.specs.Kinding.{kinding_all, kinding_fields}
use Rattle.kind_rules.specs.View.{scope_view, two_trees}
use Rattle.kind_rules.proofs.Lists.{found_before}
use Rattle.kind_rules.proofs.kinding.+find.Given as goal

abbrev pub invariant-find_all-loop-i : goal.invariant-find_all-loop-i
invariant-find_all-loop-i l =
    kinding_all (scope_view l.s) (cons_tree l.cs)
    ≡ found_before (map kind_tree l.kinds.items) (kinding_all (scope_view l.s) (cons_from (map con_tree (drop l.i (out-Cons l.cs).items.items))))

abbrev pub invariant-find_fields-loop-i : goal.invariant-find_fields-loop-i
invariant-find_fields-loop-i l =
    kinding_fields (scope_view l.s) (pairs_tree l.ps)
    ≡ found_before (map two_trees l.fields.items) (kinding_fields (scope_view l.s) (pairs_from (map pair_tree (drop l.i (out-Pairs l.ps).items.items))))

abbrev pub decreases-find : goal.decreases-find
decreases-find l = 4 * size-Con l.c.now

abbrev pub decreases-find_both : goal.decreases-find_both
decreases-find_both l = 4 * max (size-Con l.a.now) (size-Con l.b.now) + 1

abbrev pub decreases-find_under : goal.decreases-find_under
decreases-find_under l = 4 * size-Con l.b.now + 1

abbrev pub decreases-find_arrow : goal.decreases-find_arrow
decreases-find_arrow l = 4 * max (size-Con l.a.now) (size-Con l.b.now) + 2

abbrev pub decreases-find_poly : goal.decreases-find_poly
decreases-find_poly l = 4 * size-Con l.b.now + 2

abbrev pub decreases-find_guarded : goal.decreases-find_guarded
decreases-find_guarded l = 4 * max (max (size-Con l.a.now) (size-Con l.b.now)) (size-Con l.body.now) + 2

abbrev pub decreases-find_assuming : goal.decreases-find_assuming
decreases-find_assuming l = 4 * size-Con l.body.now + 1

abbrev pub decreases-find_record : goal.decreases-find_record
decreases-find_record l = 4 * size-Con l.a.now + 1

abbrev pub decreases-find_app : goal.decreases-find_app
decreases-find_app l = 4 * max (size-Con l.f.now) (size-Con l.a.now) + 2

abbrev pub decreases-find_lambda : goal.decreases-find_lambda
decreases-find_lambda l = 4 * size-Con l.b.now + 2

abbrev pub decreases-find_row : goal.decreases-find_row
decreases-find_row l = 4 * size-Pairs l.ps.now + 2

abbrev pub decreases-find_cat : goal.decreases-find_cat
decreases-find_cat l = 4 * max (size-Con l.a.now) (size-Con l.b.now) + 2

abbrev pub decreases-find_tuple : goal.decreases-find_tuple
decreases-find_tuple l = 4 * size-Cons l.cs.now + 2

abbrev pub decreases-find_proj : goal.decreases-find_proj
decreases-find_proj l = 4 * size-Con l.a.now + 1

abbrev pub decreases-find_all : goal.decreases-find_all
decreases-find_all l = 4 * size-Cons l.cs.now + 1

abbrev pub decreases-find_fields : goal.decreases-find_fields
decreases-find_fields l = 4 * size-Pairs l.ps.now + 1
