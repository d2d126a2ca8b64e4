use Rattle.std.proofs.Common.{◌∙◌}
use Rattle.core_terms.specs.Lists.{pat_field_tree}
use Rattle.core_terms.specs.declared.pat.PatForm.TheViews.{out-PatFields}
use Rattle.con_terms.proofs.Listed.{len_listed}
use Rattle.core_terms.proofs.Elements.{pat_field_listed}
use Rattle.core_terms.proofs.pat.PatFields.len.Goals as goal

pub returns : goal.returns
returns c = c.len.ensures ∙ len_listed pat_field_tree (out-PatFields c.args.self.now).items _ (pat_field_listed c.args.self.now)
