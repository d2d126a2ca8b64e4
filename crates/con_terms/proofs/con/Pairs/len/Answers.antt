use Rattle.std.proofs.Common.{◌∙◌}
use Rattle.con_terms.specs.View.{pair_tree}
use Rattle.con_terms.specs.declared.con.Con.TheViews.{out-Pairs}
use Rattle.con_terms.proofs.Listed.{len_listed}
use Rattle.con_terms.proofs.Lists.{pairs_listed}
use Rattle.con_terms.proofs.con.Pairs.len.Goals as goal

pub returns : goal.returns
returns c = c.len.ensures ∙ len_listed pair_tree (out-Pairs c.args.self.now).items _ (pairs_listed c.args.self.now)
