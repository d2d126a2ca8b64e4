use Rattle.std.proofs.Common.{◌≡◌, true, false, ap, ◌∙◌}
use Rattle.row_normal.specs.View.{normal_tree}
use Rattle.kind_rules.specs.Comparison.{differing}
use Rattle.kind_rules.specs.declared.compare.Sides.{Sides}
use Rattle.kind_rules.proofs.Fairness.{told_alike, told_differing}
use Rattle.kind_rules.proofs.compare.told_of.Goals as goal

pub returns-then-same : goal.returns-then-same
returns-then-same c = told_alike (normal_tree c.args.sides.left) (normal_tree c.args.sides.right) (c.same.ensures.0 c.if-same.true)

pub returns : goal.returns
returns c =
    ap (λ (s : Sides). differing (normal_tree s.left) (normal_tree s.right)) c.in_ok-new.ensures.ok
    ∙ told_differing (normal_tree c.args.sides.left) (normal_tree c.args.sides.right) (λ e.
    let t : c.same.result ≡ true = c.same.ensures.1 e in
    let f : c.same.result ≡ false = c.if-same.false in
    cc)
