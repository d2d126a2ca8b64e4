use Rattle.ur_lexer.proofs.Readings.OneReading.{one_reading}
use Rattle.ur_lexer.proofs.laws.texts_have_one_reading.Goals as goal

pub returns : goal.returns
returns c = one_reading
