use Rattle.ur_lexer.proofs.Readings.SomeReading.{some_reading}
use Rattle.ur_lexer.proofs.laws.texts_have_a_reading.Goals as goal

pub returns : goal.returns
returns c = some_reading
