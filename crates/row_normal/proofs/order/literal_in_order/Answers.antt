use Rattle.std.proofs.Common.{◌≡◌, ◌∙◌, rules}
use Rattle.std.proofs.lemmas.Result.{IfOk-weaker}
use Rattle.con_terms.specs.Trees.{row}
use Rattle.con_terms.specs.View.{con_tree, kind_tree, pairs_tree}
use Rattle.row_normal.specs.Ordered.{glued, joined, ordered as in_its_order, sorted}
use Rattle.row_normal.specs.Pieces.{written_fields}
use Rattle.row_normal.proofs.Rising.{fields_apart, stays_literal}
use Rattle.row_normal.proofs.order.literal_in_order.Goals as goal

pub returns-then-rises : goal.returns-then-rises
returns-then-rises c ps e r =
    IfOk-weaker _ (λ d. con_tree d ≡ row (kind_tree c.args.k.now) (pairs_tree c.args.fields)) (λ d. con_tree d ≡ in_its_order (row (kind_tree c.args.k.now) ps))
    (λ d h. h ∙ stays_literal _ ps _ c.args.rises e r (search rules)) c.literal.ensures

pub returns-else-rises : goal.returns-else-rises
returns-else-rises c ps e r =
    IfOk-weaker _ (λ d. con_tree d ≡ joined (kind_tree c.args.k.now) (glued (sorted (written_fields (kind_tree c.args.k.now) (pairs_tree c.args.fields))))) (λ d. con_tree d ≡ in_its_order (row (kind_tree c.args.k.now) ps))
    (λ d h. h ∙ fields_apart _ ps _ e) c.fields_in_order.ensures
