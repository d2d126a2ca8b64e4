use Rattle.core_terms.specs.Lists.{branch_tree}
use Rattle.core_terms.specs.declared.exp.Form.TheViews.{out-Branches}
use Rattle.con_terms.proofs.Listed.{index_listed, at_listed}
use Rattle.core_terms.proofs.Elements.{branch_listed}
use Rattle.core_terms.proofs.exp.Branches.at.Goals as goal

pub index-requires : goal.index-requires
index-requires c = index_listed branch_tree (out-Branches c.args.self.now).items _ c.args.i (branch_listed c.args.self.now) c.requires

pub returns : goal.returns
returns c = at_listed branch_tree (out-Branches c.args.self.now).items _ c.args.i _ (branch_listed c.args.self.now) c.requires c.index.ensures
