use Rattle.con_terms.proofs.Listed.{pushed_listed, same_listed}
use Rattle.core_terms.specs.Lists.{branch_tree}
use Rattle.core_terms.proofs.Elements.{branch_listed, branch_listed-roll}
use Rattle.core_terms.proofs.Added.{where_added, where_kept}
use Rattle.core_terms.proofs.exp.Branches.push.Goals as goal

pub returns-clause-grown : goal.returns-clause-grown
returns-clause-grown c =
    where_added c.add.result _ _
    (λ more. pushed_listed branch_tree _ _ _ _ _ (branch_listed c.args.self.now) (branch_listed-roll (record { items = c.add.new.items })) more)
    c.add.ensures.grown

pub returns-clause-kept : goal.returns-clause-kept
returns-clause-kept c =
    where_kept c.add.result _ _
    (λ same. same_listed branch_tree _ _ _ _ (branch_listed c.args.self.now) (branch_listed-roll (record { items = c.add.new.items })) same)
    c.add.ensures.kept
