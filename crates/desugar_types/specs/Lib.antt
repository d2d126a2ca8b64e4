-- What the rules of kinds stand for.
pub mod Kinds
-- The trees of repetitions as lists.
pub mod Lists
-- What follows the first word of a constructor.
pub mod Tails
-- Paths.
pub mod Paths
-- The fields of rows.
pub mod Rows
-- Constructors that begin with a bracket.
pub mod Brackets
-- What the rules of constructors stand for.
pub mod Constructors
-- What each rule of kinds and of constructors stands for.
pub mod ConRules
-- The word with which the parts of a rule begin.
pub mod Leading
-- Parameters.
pub mod Parameters
-- Patterns.
pub mod Patterns
-- Record patterns.
pub mod PatRecords
-- The rules of patterns.
pub mod PatRules
