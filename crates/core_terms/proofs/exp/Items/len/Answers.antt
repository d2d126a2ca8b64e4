use Rattle.std.proofs.Common.{◌∙◌}
use Rattle.core_terms.specs.Lists.{item_tree}
use Rattle.core_terms.specs.declared.exp.Form.TheViews.{out-Items}
use Rattle.con_terms.proofs.Listed.{len_listed}
use Rattle.core_terms.proofs.Elements.{item_listed}
use Rattle.core_terms.proofs.exp.Items.len.Goals as goal

pub returns : goal.returns
returns c = c.len.ensures ∙ len_listed item_tree (out-Items c.args.self.now).items _ (item_listed c.args.self.now)
