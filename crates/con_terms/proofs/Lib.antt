-- The trees of lists: of kinds, of constructors, of fields (for `len`, `at`, `push` and others).
pub mod Lists
-- A vector that is seen as the list of its elements' trees (for `len`, `at`, `push`).
pub mod Listed
-- The texts of a set of strings (for `count`, `intern`, `find`).
pub mod Tables
-- How two walks over a constructor meet (law `substitutions_swap`).
pub mod Walks
-- Equal constructors stay equal under shifts and substitutions (laws `substitution_keeps_equal`, `shift_keeps_equal`).
pub mod Equals
-- Comparing lists of kinds from an index on (for `same_kind`, `equal`).
pub mod SameKinds
-- The symbols of a table of distinct texts (law `symbols_are_texts`).
pub mod SymbolTexts
