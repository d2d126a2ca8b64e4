use Rattle.wire_values.proofs.Forms.{words_has}
use Rattle.wire_values.proofs.leaves.words.Goals as goal

pub returns-in-Words : goal.returns-in-Words
returns-in-Words c K = words_has c.args.wire.now c.in-Words.text c.as_str.result c.in-Words.is c.as_str.ensures
