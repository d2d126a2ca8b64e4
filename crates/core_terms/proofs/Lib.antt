-- What is left of a term has nothing inserted (laws `stripping_twice_is_stripping`, `sigils_stay`).
pub mod Stripping
-- The trees of lists of terms have their elements (for `len`, `at`, `push`).
pub mod Elements
-- What an element more does to what is said of a list (for `push`).
pub mod Added
