use Rattle.std.proofs.Common.{ap, ◌∙◌}
use Rattle.con_terms.specs.View.{con_tree}
use Rattle.kind_rules.proofs.Literals.{name_tree, two_literals}
use Rattle.kind_rules.proofs.compare.are_two_literals.Goals as goal

pub returns-in-Name-right : goal.returns-in-Name-right
returns-in-Name-right c =
    λ h gs. two_literals gs (con_tree c.args.left.now) (con_tree c.args.right.now) c.in-Name.s.number c.in-Name-right.t.number (ap con_tree c.in-Name.is ∙ name_tree c.in-Name.s) (ap con_tree c.in-Name-right.is ∙ name_tree c.in-Name-right.t) h
