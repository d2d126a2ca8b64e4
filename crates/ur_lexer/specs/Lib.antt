-- Kinds of bytes.
pub mod Bytes
-- What contracts see of the lexer's state.
pub mod Where
-- Modes: code, tags and text, and how tokens lead from one to another.
pub mod Modes
-- Words and symbols, in full, and how they are looked up.
pub mod Words
-- Numbers from their digits.
pub mod Numbers
-- Comments, which nest.
pub mod Comments
-- Entities.
pub mod Entities
-- Strings: what stands behind the quote that opens one.
pub mod Strings
-- The tokens between tags, as they are computed: runs of text and closing tags.
pub mod Markup
-- Lexing: a text is cut into blanks and tokens, each token the longest that could begin at its place.
pub mod Lexing
-- The tokens of code and those of a tag, as they are computed by their first byte.
pub mod Code
-- What stands at the front of a text, as it is computed.
pub mod Ahead
-- What a function answered, against what is computed here in specs.
pub mod Results
