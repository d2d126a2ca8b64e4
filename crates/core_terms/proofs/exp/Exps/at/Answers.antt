use Rattle.core_terms.specs.View.{exp_tree}
use Rattle.core_terms.specs.declared.exp.Form.TheViews.{out-Exps}
use Rattle.con_terms.proofs.Listed.{index_listed, at_listed}
use Rattle.core_terms.proofs.Elements.{exp_listed}
use Rattle.core_terms.proofs.exp.Exps.at.Goals as goal

pub index-requires : goal.index-requires
index-requires c = index_listed exp_tree (out-Exps c.args.self.now).items _ c.args.i (exp_listed c.args.self.now) c.requires

pub returns : goal.returns
returns c = at_listed exp_tree (out-Exps c.args.self.now).items _ c.args.i _ (exp_listed c.args.self.now) c.requires c.index.ensures
