-- What a type applies, and to what.
pub mod Spines
-- What a pattern asks of a value, without names, types and places.
pub mod Tests
-- Rows of tests: for each of several values, one column each, a list of tests to be passed.
pub mod Rows
-- The types of parts, level by level without repeats, and whether one of them is too large.
pub mod Levels
-- The first shapes that no row of tests passes, and the order in which they are tried.
pub mod Misses
-- The plain data that the values of this crate are.
pub mod View
-- What is so of the computed answers.
pub mod Laws
-- Why patterns don't cover a type, as it is computed.
pub mod Why
