-- From what is found to the definition, and back. Behind each file: the public clause for which it serves.
-- `lex`: what is found is what the definition says
pub mod Found
-- `laws.texts_have_one_reading`: what the definition says is what is found
pub mod Told
