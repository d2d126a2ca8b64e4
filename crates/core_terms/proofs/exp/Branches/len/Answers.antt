use Rattle.std.proofs.Common.{◌∙◌}
use Rattle.core_terms.specs.Lists.{branch_tree}
use Rattle.core_terms.specs.declared.exp.Form.TheViews.{out-Branches}
use Rattle.con_terms.proofs.Listed.{len_listed}
use Rattle.core_terms.proofs.Elements.{branch_listed}
use Rattle.core_terms.proofs.exp.Branches.len.Goals as goal

pub returns : goal.returns
returns c = c.len.ensures ∙ len_listed branch_tree (out-Branches c.args.self.now).items _ (branch_listed c.args.self.now)
