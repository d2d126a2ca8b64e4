use Rattle.std.proofs.Common.{◌∙◌}
use Rattle.core_terms.specs.Lists.{attribute_tree}
use Rattle.core_terms.specs.declared.exp.Form.TheViews.{out-Attributes}
use Rattle.con_terms.proofs.Listed.{len_listed}
use Rattle.core_terms.proofs.Elements.{attribute_listed}
use Rattle.core_terms.proofs.exp.Attributes.len.Goals as goal

pub returns : goal.returns
returns c = c.len.ensures ∙ len_listed attribute_tree (out-Attributes c.args.self.now).items _ (attribute_listed c.args.self.now)
