use Rattle.std.proofs.Common.{◌∙◌}
use Rattle.core_terms.specs.View.{exp_tree}
use Rattle.core_terms.specs.declared.exp.Form.TheViews.{out-Exps}
use Rattle.con_terms.proofs.Listed.{len_listed}
use Rattle.core_terms.proofs.Elements.{exp_listed}
use Rattle.core_terms.proofs.exp.Exps.len.Goals as goal

pub returns : goal.returns
returns c = c.len.ensures ∙ len_listed exp_tree (out-Exps c.args.self.now).items _ (exp_listed c.args.self.now)
