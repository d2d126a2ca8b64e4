use Rattle.core_terms.specs.Lists.{field_tree}
use Rattle.core_terms.specs.declared.exp.Form.TheViews.{out-Fields}
use Rattle.con_terms.proofs.Listed.{index_listed, at_listed}
use Rattle.core_terms.proofs.Elements.{field_listed}
use Rattle.core_terms.proofs.exp.Fields.at.Goals as goal

pub index-requires : goal.index-requires
index-requires c = index_listed field_tree (out-Fields c.args.self.now).items _ c.args.i (field_listed c.args.self.now) c.requires

pub returns : goal.returns
returns c = at_listed field_tree (out-Fields c.args.self.now).items _ c.args.i _ (field_listed c.args.self.now) c.requires c.index.ensures
