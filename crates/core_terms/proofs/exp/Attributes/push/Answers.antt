use Rattle.con_terms.proofs.Listed.{pushed_listed, same_listed}
use Rattle.core_terms.specs.Lists.{attribute_tree}
use Rattle.core_terms.proofs.Elements.{attribute_listed, attribute_listed-roll}
use Rattle.core_terms.proofs.Added.{where_added, where_kept}
use Rattle.core_terms.proofs.exp.Attributes.push.Goals as goal

pub returns-clause-grown : goal.returns-clause-grown
returns-clause-grown c =
    where_added c.add.result _ _
    (λ more. pushed_listed attribute_tree _ _ _ _ _ (attribute_listed c.args.self.now) (attribute_listed-roll (record { items = c.add.new.items })) more)
    c.add.ensures.grown

pub returns-clause-kept : goal.returns-clause-kept
returns-clause-kept c =
    where_kept c.add.result _ _
    (λ same. same_listed attribute_tree _ _ _ _ (attribute_listed c.args.self.now) (attribute_listed-roll (record { items = c.add.new.items })) same)
    c.add.ensures.kept
