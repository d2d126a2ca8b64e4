use Rattle.core_terms.specs.Lists.{item_tree}
use Rattle.core_terms.specs.declared.exp.Form.TheViews.{out-Items}
use Rattle.con_terms.proofs.Listed.{index_listed, at_listed}
use Rattle.core_terms.proofs.Elements.{item_listed}
use Rattle.core_terms.proofs.exp.Items.at.Goals as goal

pub index-requires : goal.index-requires
index-requires c = index_listed item_tree (out-Items c.args.self.now).items _ c.args.i (item_listed c.args.self.now) c.requires

pub returns : goal.returns
returns c = at_listed item_tree (out-Items c.args.self.now).items _ c.args.i _ (item_listed c.args.self.now) c.requires c.index.ensures
