-- Unknowns of a call, and what was found for them.
pub mod Unknowns
-- The unknowns as plain data.
pub mod Slots
-- The plain data that the values of this crate are.
pub mod View
