-- The token at the front of a text. Behind each file: the public clause for which it serves.
-- all of the below: cases of tests and options
pub mod Choices
-- `lex`: numbers from their digits
pub mod Values
-- `lex`: runs of bytes that pass a test
pub mod Runs
-- `lex`: the first symbol of the table that fits is the longest
pub mod Symbols
-- `lex`: tokens of code, by their first byte
pub mod CodeTokens
-- `lex`: what stands at the front, case by case
pub mod Fronts
-- `lex`: the longest token, whatever number it holds
pub mod Best
-- `lex`: the token, unless its number is too large
pub mod Settled
