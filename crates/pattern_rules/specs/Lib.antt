-- What patterns bind at a type, as it is computed, or the fault that is told of them.
pub mod Binds
-- What is found for a case from its branches, and what is told of patterns without cover.
pub mod Matching
-- The plain data that the values of this crate are.
pub mod View
-- What is so of what is computed for patterns.
pub mod Laws
