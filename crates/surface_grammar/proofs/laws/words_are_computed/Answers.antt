use Rattle.surface_grammar.proofs.Firsts.{computed}
use Rattle.surface_grammar.proofs.laws.words_are_computed.Goals as goal

pub returns : goal.returns
returns c = computed
