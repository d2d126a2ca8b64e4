-- Whole texts. Behind each file: the public clause for which it serves.
-- `lex`: `tokens`: readings that grow token by token
pub mod Growing
-- `laws.texts_have_one_reading`: a text has one reading
pub mod OneReading
-- `lex`: where a text may be cut between characters
pub mod Cuts
-- `lex`: tokens and blanks end at such places
pub mod Ends
-- `laws.texts_have_a_reading`: every text has tokens up to its end, or up to a fault
pub mod SomeReading
