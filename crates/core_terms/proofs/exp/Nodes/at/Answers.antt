use Rattle.core_terms.specs.Lists.{node_tree}
use Rattle.core_terms.specs.declared.exp.Form.TheViews.{out-Nodes}
use Rattle.con_terms.proofs.Listed.{index_listed, at_listed}
use Rattle.core_terms.proofs.Elements.{node_listed}
use Rattle.core_terms.proofs.exp.Nodes.at.Goals as goal

pub index-requires : goal.index-requires
index-requires c = index_listed node_tree (out-Nodes c.args.self.now).items _ c.args.i (node_listed c.args.self.now) c.requires

pub returns : goal.returns
returns c = at_listed node_tree (out-Nodes c.args.self.now).items _ c.args.i _ (node_listed c.args.self.now) c.requires c.index.ensures
