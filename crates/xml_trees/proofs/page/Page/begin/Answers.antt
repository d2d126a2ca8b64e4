use Rattle.xml_trees.proofs.Growing.{begun, built-begun}
use Rattle.xml_trees.proofs.page.Page.begin.Goals as goal
use Rattle.std.proofs.Common.{◌++◌, ◌∷◌, [], ap, ◌∙◌}
use Rattle.xml_trees.specs.declared.name.Name.{Name}

pub invariant_of-self-in-Ok : goal.invariant_of-self-in-Ok
invariant_of-self-in-Ok c =
    begun _ _ _ _ c.args.tag c.args.attrs c.self.invariant c.in-Ok.ensures.ok
    (c.in_ok-push.ensures.items ∙ ap (λ (name : Name). c.self.inside.unfinished.items ++ name ∷ []) c.name.ensures)

pub returns-in-Ok-clause-ok : goal.returns-in-Ok-clause-ok
returns-in-Ok-clause-ok c = built-begun _ _ _ c.args.tag c.args.attrs c.self.view_is c.in-Ok.ensures.ok
