use Rattle.std.proofs.Common.{◌≡◌, map, drop, None}
use Rattle.con_terms.specs.Trees.{con_list}
use Rattle.con_terms.specs.View.{con_tree, cons_tree}
use Rattle.con_terms.specs.declared.con.Con.TheViews.{out-Cons}
use Rattle.guided_terms.specs.Forms.{literal_fields}
use Rattle.inserted_terms.proofs.folders.is_one_open.Given as goal

abbrev pub invariant-loop-i : goal.invariant-loop-i
invariant-loop-i l =
    literal_fields (map con_tree (drop l.i (out-Cons l.pieces).items.items)) ≡ None
    → literal_fields (con_list (cons_tree l.pieces)) ≡ None
