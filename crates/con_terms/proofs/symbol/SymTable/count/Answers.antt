use Rattle.std.proofs.Common.{◌≡◌}
use Rattle.con_terms.proofs.Tables.{distinct_texts}
use Rattle.con_terms.proofs.symbol.SymTable.count.Goals as goal

pub returns-clause-distinct : goal.returns-clause-distinct
returns-clause-distinct c = rw (← c.self.view_is) (distinct_texts c.self.inside.texts.keys c.len.ensures.unique)
