-- For `is_only_word`: a list of one word.
mod OneWord
-- For `end_page`: from the bytes that were read to what the top call says of the input.
mod Inputs
