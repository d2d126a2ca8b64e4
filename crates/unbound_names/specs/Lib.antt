-- The name that is asked of.
pub mod Asked
-- Which names are in scope.
pub mod InScope
-- Names in constructors of the type level.
pub mod Types
-- Names in patterns and parameters, and what these bind.
pub mod Patterns
-- Names in terms.
pub mod Terms
-- Names in declarations, and what these declare.
pub mod Declarations
-- Names in the modules of a program.
pub mod Programs
-- The plain data that the values of this crate are.
pub mod View
