use Rattle.std.proofs.Common.{◌≡◌, ◌++◌, map, length}
use Rattle.std.specs.Vec.Iter.{into_iter_items, into_iter_len}
use Rattle.con_terms.specs.View.{kind_tree, pair_tree}
use Rattle.con_terms.specs.declared.con.Con.TheViews.{out-Pairs}
use Rattle.row_normal.specs.Glue.{piece_tree}
use Rattle.row_normal.proofs.Each.{alone}
use Rattle.row_normal.proofs.order.field_pieces.Given as goal

abbrev pub invariant-loop-field : goal.invariant-loop-field
invariant-loop-field l =
    (map piece_tree l.pieces.items ++ map (λ p. alone (kind_tree l.k) (pair_tree p)) (into_iter_items l.field-iterator)
    ≡ map piece_tree l.initial.pieces.items ++ map (λ p. alone (kind_tree l.k) (pair_tree p)) (out-Pairs l.fn.fields).items.items)
    × (into_iter_len l.field-iterator ≡ length (into_iter_items l.field-iterator))
