use Rattle.std.proofs.Common.{◌∙◌}
use Rattle.con_terms.specs.View.{con_tree}
use Rattle.con_terms.specs.declared.con.Con.TheViews.{out-Cons}
use Rattle.con_terms.proofs.Listed.{len_listed}
use Rattle.con_terms.proofs.Lists.{cons_listed}
use Rattle.con_terms.proofs.con.Cons.len.Goals as goal

pub returns : goal.returns
returns c = c.len.ensures ∙ len_listed con_tree (out-Cons c.args.self.now).items _ (cons_listed c.args.self.now)
