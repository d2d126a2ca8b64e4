use Rattle.core_terms.specs.View.{named_tree}
use Rattle.core_terms.specs.declared.exp.Form.TheViews.{out-NamedList}
use Rattle.con_terms.proofs.Listed.{index_listed, at_listed}
use Rattle.core_terms.proofs.Elements.{name_listed}
use Rattle.core_terms.proofs.exp.NamedList.at.Goals as goal

pub index-requires : goal.index-requires
index-requires c = index_listed named_tree (out-NamedList c.args.self.now).items _ c.args.i (name_listed c.args.self.now) c.requires

pub returns : goal.returns
returns c = at_listed named_tree (out-NamedList c.args.self.now).items _ c.args.i _ (name_listed c.args.self.now) c.requires c.index.ensures
