-- Terms, patterns and declarations as finite trees, with the places of their first tokens.
pub mod Trees
-- The trees that values of the program are.
pub mod View
-- What is left of a term when what was inserted is dropped: its source, with names resolved.
pub mod Strip
-- The symbols that every program's table begins with, by their fixed numbers.
pub mod Names
-- Types that rules speak of.
pub mod Types
-- The values that every program has, with their types.
pub mod Basis
-- The names that sources give to what every program has.
pub mod BasisTexts
-- Datatypes: those of the basis, types of constructors, and what these hold at given types.
pub mod Datatypes
-- The tags: where each stands, what it holds, which attributes it has and which field it fills.
pub mod Markup
-- What is asked of a program's leaves: names have texts, numbers fit in 64 bits, texts are UTF-8.
pub mod Leaves
-- Dropping what was inserted once is enough, and keeps what the source has before the head of a call.
pub mod StripLaw
-- The elements of the lists of terms and of programs, one by one.
pub mod Lists
-- How deep terms and patterns nest, and the one bound on it.
pub mod Nesting
