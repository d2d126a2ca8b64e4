use Rattle.std.proofs.Common.{ap, sym, ◌∙◌}
use Rattle.con_terms.specs.View.{con_tree}
use Rattle.kind_rules.specs.View.{found, sides_tree}
use Rattle.kind_rules.proofs.Fairness.{fair_by_sides}
use Rattle.kind_rules.proofs.compare.compare.Goals as goal

pub returns-clause-fair : goal.returns-clause-fair
returns-clause-fair c =
    fair_by_sides c.told_of.result (con_tree c.args.left.now) (con_tree c.args.right.now) (sides_tree c.in-Ok.sides) (sym c.in_ok-normal_sides.ensures ∙ ap (found sides_tree) c.in-Ok.is) c.told_of.ensures
