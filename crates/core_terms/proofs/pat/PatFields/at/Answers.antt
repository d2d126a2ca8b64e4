use Rattle.core_terms.specs.Lists.{pat_field_tree}
use Rattle.core_terms.specs.declared.pat.PatForm.TheViews.{out-PatFields}
use Rattle.con_terms.proofs.Listed.{index_listed, at_listed}
use Rattle.core_terms.proofs.Elements.{pat_field_listed}
use Rattle.core_terms.proofs.pat.PatFields.at.Goals as goal

pub index-requires : goal.index-requires
index-requires c = index_listed pat_field_tree (out-PatFields c.args.self.now).items _ c.args.i (pat_field_listed c.args.self.now) c.requires

pub returns : goal.returns
returns c = at_listed pat_field_tree (out-PatFields c.args.self.now).items _ c.args.i _ (pat_field_listed c.args.self.now) c.requires c.index.ensures
