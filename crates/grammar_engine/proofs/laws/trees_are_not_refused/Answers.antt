use Rattle.grammar_engine.proofs.Texts.Refusals.{trees_are_not_refused}
use Rattle.grammar_engine.proofs.laws.trees_are_not_refused.Goals as goal

pub returns : goal.returns
returns c = trees_are_not_refused
