use Rattle.con_terms.proofs.SymbolTexts.{symbols_are_texts}
use Rattle.con_terms.proofs.laws.symbols_are_texts.Goals as goal

pub returns : goal.returns
returns c = symbols_are_texts
