use Rattle.std.proofs.Common.{refl}
use Rattle.con_terms.proofs.Listed.{index_listed, at_listed}
use Rattle.judgements.specs.View.{judged_tree}
use Rattle.markup_rules.proofs.judged.Judgements.at.Goals as goal

pub index-requires : goal.index-requires
index-requires c = index_listed judged_tree c.args.self.now.items _ c.args.i refl c.requires

pub returns : goal.returns
returns c = at_listed judged_tree c.args.self.now.items _ c.args.i _ refl c.requires c.index.ensures
