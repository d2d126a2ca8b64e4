use Rattle.std.proofs.Common.{◌∙◌, ap, map, sym}
use Rattle.con_terms.specs.View.{con_tree, kind_tree}
use Rattle.row_normal.specs.Glue.{cats_before}
use Rattle.row_normal.proofs.Joins.{taken_first, taken_more}
use Rattle.row_normal.proofs.glue.concatenated.Goals as goal

pub joins-init : goal.joins-init
joins-init c = taken_first con_tree (kind_tree c.args.kind) c.args.pieces.items c.pop.new.self.items c.in-Some.last c.in-Some.ensures.items

pub joins-preserved : goal.joins-preserved
joins-preserved c =
    c.joins.invariant
    ∙ taken_more con_tree c.joins.pieces.items c.pop-in-joins.new.self.items c.in-Some-pop.piece (con_tree c.joins.whole) c.in-Some-pop.ensures.items
    ∙ ap (cats_before (map con_tree c.pop-in-joins.new.self.items)) (sym c.in_ok-whole.ensures)
