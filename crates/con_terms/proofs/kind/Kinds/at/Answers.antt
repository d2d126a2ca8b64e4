use Rattle.con_terms.specs.View.{kind_tree}
use Rattle.con_terms.specs.declared.kind.Kind.TheViews.{out-Kinds}
use Rattle.con_terms.proofs.Listed.{index_listed, at_listed}
use Rattle.con_terms.proofs.Lists.{kinds_listed}
use Rattle.con_terms.proofs.kind.Kinds.at.Goals as goal

pub index-requires : goal.index-requires
index-requires c = index_listed kind_tree (out-Kinds c.args.self.now).items _ c.args.i (kinds_listed c.args.self.now) c.requires

pub returns : goal.returns
returns c = at_listed kind_tree (out-Kinds c.args.self.now).items _ c.args.i _ (kinds_listed c.args.self.now) c.requires c.index.ensures
