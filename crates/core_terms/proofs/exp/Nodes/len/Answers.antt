use Rattle.std.proofs.Common.{◌∙◌}
use Rattle.core_terms.specs.Lists.{node_tree}
use Rattle.core_terms.specs.declared.exp.Form.TheViews.{out-Nodes}
use Rattle.con_terms.proofs.Listed.{len_listed}
use Rattle.core_terms.proofs.Elements.{node_listed}
use Rattle.core_terms.proofs.exp.Nodes.len.Goals as goal

pub returns : goal.returns
returns c = c.len.ensures ∙ len_listed node_tree (out-Nodes c.args.self.now).items _ (node_listed c.args.self.now)
