use Rattle.con_terms.proofs.Listed.{pushed_listed, same_listed}
use Rattle.core_terms.specs.Lists.{item_tree}
use Rattle.core_terms.proofs.Elements.{item_listed, item_listed-roll}
use Rattle.core_terms.proofs.Added.{where_added, where_kept}
use Rattle.core_terms.proofs.exp.Items.push.Goals as goal

pub returns-clause-grown : goal.returns-clause-grown
returns-clause-grown c =
    where_added c.add.result _ _
    (λ more. pushed_listed item_tree _ _ _ _ _ (item_listed c.args.self.now) (item_listed-roll (record { items = c.add.new.items })) more)
    c.add.ensures.grown

pub returns-clause-kept : goal.returns-clause-kept
returns-clause-kept c =
    where_kept c.add.result _ _
    (λ same. same_listed item_tree _ _ _ _ (item_listed c.args.self.now) (item_listed-roll (record { items = c.add.new.items })) same)
    c.add.ensures.kept
