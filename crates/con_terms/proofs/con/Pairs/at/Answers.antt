use Rattle.con_terms.specs.View.{pair_tree}
use Rattle.con_terms.specs.declared.con.Con.TheViews.{out-Pairs}
use Rattle.con_terms.proofs.Listed.{index_listed, at_listed}
use Rattle.con_terms.proofs.Lists.{pairs_listed}
use Rattle.con_terms.proofs.con.Pairs.at.Goals as goal

pub index-requires : goal.index-requires
index-requires c = index_listed pair_tree (out-Pairs c.args.self.now).items _ c.args.i (pairs_listed c.args.self.now) c.requires

pub returns : goal.returns
returns c = at_listed pair_tree (out-Pairs c.args.self.now).items _ c.args.i _ (pairs_listed c.args.self.now) c.requires c.index.ensures
