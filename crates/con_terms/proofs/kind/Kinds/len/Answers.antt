use Rattle.std.proofs.Common.{◌∙◌}
use Rattle.con_terms.specs.View.{kind_tree}
use Rattle.con_terms.specs.declared.kind.Kind.TheViews.{out-Kinds}
use Rattle.con_terms.proofs.Listed.{len_listed}
use Rattle.con_terms.proofs.Lists.{kinds_listed}
use Rattle.con_terms.proofs.kind.Kinds.len.Goals as goal

pub returns : goal.returns
returns c = c.len.ensures ∙ len_listed kind_tree (out-Kinds c.args.self.now).items _ (kinds_listed c.args.self.now)
