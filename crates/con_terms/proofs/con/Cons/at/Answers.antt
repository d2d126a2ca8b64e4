use Rattle.con_terms.specs.View.{con_tree}
use Rattle.con_terms.specs.declared.con.Con.TheViews.{out-Cons}
use Rattle.con_terms.proofs.Listed.{index_listed, at_listed}
use Rattle.con_terms.proofs.Lists.{cons_listed}
use Rattle.con_terms.proofs.con.Cons.at.Goals as goal

pub index-requires : goal.index-requires
index-requires c = index_listed con_tree (out-Cons c.args.self.now).items _ c.args.i (cons_listed c.args.self.now) c.requires

pub returns : goal.returns
returns c = at_listed con_tree (out-Cons c.args.self.now).items _ c.args.i _ (cons_listed c.args.self.now) c.requires c.index.ensures
