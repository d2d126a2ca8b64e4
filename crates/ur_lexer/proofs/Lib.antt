-- Steps in comments, entities, runs of text and strings (for `comment_len`, `string_token`, `run_piece`).
pub mod Steps
-- The token at the front of a text (for Meaning, `code_token`, `number`).
pub mod Front
-- From what is found at the front of a text to the definition, and back (for Readings, `lex`).
pub mod Meaning
-- Whole texts, token by token (laws `texts_have_one_reading`, `texts_have_a_reading`; for `lex`).
pub mod Readings
