use Rattle.std.proofs.Common.{◌∙◌}
use Rattle.core_terms.specs.Lists.{field_tree}
use Rattle.core_terms.specs.declared.exp.Form.TheViews.{out-Fields}
use Rattle.con_terms.proofs.Listed.{len_listed}
use Rattle.core_terms.proofs.Elements.{field_listed}
use Rattle.core_terms.proofs.exp.Fields.len.Goals as goal

pub returns : goal.returns
returns c = c.len.ensures ∙ len_listed field_tree (out-Fields c.args.self.now).items _ (field_listed c.args.self.now)
