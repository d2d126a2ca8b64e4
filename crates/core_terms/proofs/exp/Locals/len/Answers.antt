use Rattle.std.proofs.Common.{◌∙◌}
use Rattle.core_terms.specs.Lists.{local_tree}
use Rattle.core_terms.specs.declared.exp.Form.TheViews.{out-Locals}
use Rattle.con_terms.proofs.Listed.{len_listed}
use Rattle.core_terms.proofs.Elements.{local_listed}
use Rattle.core_terms.proofs.exp.Locals.len.Goals as goal

pub returns : goal.returns
returns c = c.len.ensures ∙ len_listed local_tree (out-Locals c.args.self.now).items _ (local_listed c.args.self.now)
