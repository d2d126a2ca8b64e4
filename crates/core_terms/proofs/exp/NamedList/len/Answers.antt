use Rattle.std.proofs.Common.{◌∙◌}
use Rattle.core_terms.specs.View.{named_tree}
use Rattle.core_terms.specs.declared.exp.Form.TheViews.{out-NamedList}
use Rattle.con_terms.proofs.Listed.{len_listed}
use Rattle.core_terms.proofs.Elements.{name_listed}
use Rattle.core_terms.proofs.exp.NamedList.len.Goals as goal

pub returns : goal.returns
returns c = c.len.ensures ∙ len_listed named_tree (out-NamedList c.args.self.now).items _ (name_listed c.args.self.now)
