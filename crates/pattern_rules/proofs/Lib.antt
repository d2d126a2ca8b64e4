-- The constructor that a pattern names, where the type is its datatype's (for Bound).
pub mod Data
-- What a pattern is computed to bind is what it is found to bind (law `what_is_bound_is_found`).
pub mod Bound
-- Types with arguments of which nothing is told, one argument after another (for `untold_type`).
pub mod Untold
-- Fields of a row that no field of a pattern takes (for `whole_binding`).
pub mod Rests
-- What patterns are as trees, and the field at a place of several (for `binding`).
pub mod Forms
-- The patterns of branches, one after another (for `asked_of`).
pub mod Asking
-- What is told of patterns that don't cover a type (law `what_is_silent_is_covered`).
pub mod Covering
