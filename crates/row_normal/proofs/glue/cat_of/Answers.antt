use Rattle.std.proofs.Common.{refl}
use Rattle.con_terms.specs.View.{con_tree}
use Rattle.row_normal.proofs.glue.cat_of.Goals as goal

pub returns : goal.returns
returns c =
    let a = con_tree c.args.a in
    let b = con_tree c.args.b in
    c.cat_of.ensures a b (c.boxed.ensures a refl) (c.boxed-2.ensures b refl)
