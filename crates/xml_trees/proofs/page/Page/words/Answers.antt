use Rattle.xml_trees.proofs.Growing.{said, built-said}
use Rattle.xml_trees.proofs.page.Page.words.Goals as goal
use Rattle.std.proofs.Common.{◌++◌, ◌∷◌, [], ap, ◌∙◌, List, ℕ}
use Rattle.xml_trees.specs.declared.page.Piece.TheVariants.{Words as Said}

pub invariant_of-self-2 : goal.invariant_of-self-2
invariant_of-self-2 c = said _ _ _ c.in_ok-words.words c.self.invariant c.in_ok-push.ensures.ok

pub returns-clause-ok : goal.returns-clause-ok
returns-clause-ok c =
    built-said _ _ _ c.args.text.now c.self.view_is
    (c.in_ok-push.ensures.ok ∙ ap (λ (text : List ℕ). c.self.inside.pieces.items ++ Said text ∷ []) c.in_ok-words.ensures)
