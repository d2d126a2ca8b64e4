use Rattle.std.proofs.Common.{◌∙◌, ◌++◌, ap, map}
use Rattle.con_terms.specs.View.{kind_tree, pair_tree}
use Rattle.row_normal.specs.Glue.{piece_tree}
use Rattle.row_normal.proofs.Each.{alone, written_of}
use Rattle.row_normal.proofs.Moves.{moved_all}
use Rattle.row_normal.proofs.order.field_pieces.Goals as goal

pub returns : goal.returns
returns c =
    let l = c.loop-field in
    moved_all piece_tree (λ p. alone (kind_tree c.args.k.now) (pair_tree p)) _ l.pieces.items _ _ l.invariant.0 l.invariant.1 c.in-None.ensures.steps.0
    ∙ ap (λ ps. map piece_tree c.args.pieces.now.items ++ ps) (written_of (kind_tree c.args.k.now) c.args.fields)
