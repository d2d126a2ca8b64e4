-- Where a part of a source is read, no name in it is unbound: tests that are joined (for the others).
pub mod Clear
-- Scopes of which only the names are known (for the others).
pub mod Bare
-- What a name stands for is in scope, also where only names are known (for the others).
pub mod Found
-- Names in constructors of the type level (for Patterns, Terms, Declarations).
pub mod Types
-- Names in patterns and parameters, and what these bind (for Terms).
pub mod Patterns
-- Names in terms (for Declarations).
pub mod Terms
-- Names in declarations, and what these declare (for Modules).
pub mod Declarations
-- Names in the modules of a program (law `unbound_is_no_source`).
pub mod Modules
-- Two modules, worked out (law `examples_are_worked`).
pub mod Worked
