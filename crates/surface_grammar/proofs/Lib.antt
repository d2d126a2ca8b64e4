-- The sides of what holds both ways (for Every, and for grammar_engine).
pub mod Bools
-- Every form of the grammar, so that a law of all forms is one computation (for Listed, and for grammar_engine).
pub mod Every
-- However many trees lie within each other, a form begins with no other word (law `words_are_computed`).
pub mod Firsts
-- Laws of the words with which forms begin, computed over a list of these words (for grammar_engine).
pub mod Listed
