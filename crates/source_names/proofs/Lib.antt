-- Modules and what they declare, from the latest on (for `Known`).
pub mod Homes
-- The types that every program has, by their names (for `names_type`).
pub mod BasisTypes
-- Chains of constructors, whose first is innermost (for `reads_con`).
pub mod Nested
-- Two lists side by side (for `reads_con`).
pub mod Walked
