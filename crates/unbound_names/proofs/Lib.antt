-- Values, types and attributes that every program has, by their names (for `in_scope`).
pub mod BasisNames
-- Modules, from the latest on (for `declared`).
pub mod Homes
-- The names of patterns and of declarations, one after another (for `patterns`, `terms`).
pub mod Scoping
-- Modules in their order (for `programs`).
pub mod Modules
-- Lists whose parts are looked through one after another (for `cons`, `patterns`, `terms`).
pub mod Found
-- Names of binders, or else of modules, or else of every program (for `binders`, `in_scope`).
pub mod Scopes
