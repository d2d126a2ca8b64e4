use Rattle.std.proofs.Common.{sym, ap, ◌∙◌, subst, List}
use Rattle.xml_trees.specs.declared.page.Piece.{Piece}
use Rattle.xml_trees.specs.Trees.{built, built_and, trees_of, IsWhole}
use Rattle.xml_trees.proofs.Growing.{joined}
use Rattle.xml_trees.proofs.page.Page.join.Goals as goal

pub invariant_of-self-2 : goal.invariant_of-self-2
invariant_of-self-2 c =
    (joined _ c.pieces.result.now _ _ c.self.invariant c.pieces.ensures.nested
    (subst (λ (pieces : List Piece). IsWhole (built pieces)) (sym c.pieces.ensures.pieces) c.requires) c.in_ok-append.ensures.ok).0

pub returns-clause-ok : goal.returns-clause-ok
returns-clause-ok c =
    let whole = joined _ c.pieces.result.now _ _ c.self.invariant c.pieces.ensures.nested
    (subst (λ (pieces : List Piece). IsWhole (built pieces)) (sym c.pieces.ensures.pieces) c.requires) c.in_ok-append.ensures.ok in
    whole.1
    ∙ ap (λ (pieces : List Piece). built_and (built pieces) (trees_of (built c.pieces.result.now))) c.self.view_is
    ∙ ap (λ (pieces : List Piece). built_and (built c.args.self.now) (trees_of (built pieces))) c.pieces.ensures.pieces
