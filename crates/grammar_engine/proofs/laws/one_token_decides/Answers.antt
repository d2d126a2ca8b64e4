use Rattle.grammar_engine.proofs.Table.Decided.{decides}
use Rattle.grammar_engine.proofs.laws.one_token_decides.Goals as goal

pub returns : goal.returns
returns c = decides
