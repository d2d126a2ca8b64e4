use Rattle.std.proofs.Common.{◌≡◌, ◌-◌, ℕ, length, arith, take, ap, ◌∙◌, sym, subst, List}
use Rattle.std.proofs.lemmas.Grind.{common_steps}
use Rattle.xml_trees.specs.declared.page.Piece.{Piece}
use Rattle.xml_trees.specs.Trees.{built, IsUnfinished}
use Rattle.xml_trees.proofs.Growing.{ended_kept, built-ended}
use Rattle.xml_trees.proofs.page.Page.end.Goals as goal

pub invariant_of-self-2 : goal.invariant_of-self-2
invariant_of-self-2 c =
    let some : IsUnfinished (built c.self.inside.pieces.items) = subst (λ (pieces : List Piece). IsUnfinished (built pieces)) (sym c.self.view_is) c.requires in
    ended_kept _ _ _ _ c.index-name.result.now (c.len.result - 1) c.self.invariant some (let h : c.len.result ≡ length c.self.inside.unfinished.items = grind (arith, common_steps) in ap (λ (n : ℕ). n - 1) h) c.index-name.ensures
    (c.pop.ensures.rest ∙ ap (λ (n : ℕ). take (n - 1) c.self.inside.unfinished.items) (sym c.len.ensures)) c.in_ok-push.ensures.ok

pub returns-clause-ok : goal.returns-clause-ok
returns-clause-ok c = built-ended _ _ _ c.index-name.result.now c.self.view_is c.in_ok-push.ensures.ok
