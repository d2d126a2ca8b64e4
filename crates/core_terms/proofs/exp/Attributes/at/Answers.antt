use Rattle.core_terms.specs.Lists.{attribute_tree}
use Rattle.core_terms.specs.declared.exp.Form.TheViews.{out-Attributes}
use Rattle.con_terms.proofs.Listed.{index_listed, at_listed}
use Rattle.core_terms.proofs.Elements.{attribute_listed}
use Rattle.core_terms.proofs.exp.Attributes.at.Goals as goal

pub index-requires : goal.index-requires
index-requires c = index_listed attribute_tree (out-Attributes c.args.self.now).items _ c.args.i (attribute_listed c.args.self.now) c.requires

pub returns : goal.returns
returns c = at_listed attribute_tree (out-Attributes c.args.self.now).items _ c.args.i _ (attribute_listed c.args.self.now) c.requires c.index.ensures
