use Rattle.core_terms.specs.Lists.{local_tree}
use Rattle.core_terms.specs.declared.exp.Form.TheViews.{out-Locals}
use Rattle.con_terms.proofs.Listed.{index_listed, at_listed}
use Rattle.core_terms.proofs.Elements.{local_listed}
use Rattle.core_terms.proofs.exp.Locals.at.Goals as goal

pub index-requires : goal.index-requires
index-requires c = index_listed local_tree (out-Locals c.args.self.now).items _ c.args.i (local_listed c.args.self.now) c.requires

pub returns : goal.returns
returns c = at_listed local_tree (out-Locals c.args.self.now).items _ c.args.i _ (local_listed c.args.self.now) c.requires c.index.ensures
