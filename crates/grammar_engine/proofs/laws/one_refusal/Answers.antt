use Rattle.grammar_engine.proofs.Texts.Refusals.{one_refusal}
use Rattle.grammar_engine.proofs.laws.one_refusal.Goals as goal

pub returns : goal.returns
returns c = one_refusal
