use Rattle.grammar_engine.proofs.Trees.Sole.{one_whole}
use Rattle.grammar_engine.proofs.laws.one_whole_tree.Goals as goal

pub returns : goal.returns
returns c p n o room space h w v e = one_whole p n o room space w.0 v.0 h w.1 v.1 e
