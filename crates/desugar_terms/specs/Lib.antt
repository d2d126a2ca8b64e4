-- Values of the basis with arguments.
pub mod Made
-- Terms at the bytes at which their trees begin.
pub mod Placed
-- Actions, and functions.
pub mod Actions
-- `case` and `if`.
pub mod Branches
-- Comparisons, lists and the sign.
pub mod Operators
-- Operators of chains.
pub mod Chains
-- Terms with projections behind them.
pub mod Dots
-- Applications.
pub mod Calls
-- The longest path that begins with an upper-case name.
pub mod Paths
-- Names, paths and the empty list, with projections behind them.
pub mod Operands
-- Terms in brackets.
pub mod Groups
-- Records.
pub mod Records
-- Nodes of markup, one after another.
pub mod Nodes
-- Functions with a name.
pub mod Functions
-- Declarations of values.
pub mod Locals
-- Numbers, texts, `let` and markup as terms.
pub mod Atoms
-- Markup.
pub mod Markup
-- What the rules of operands and atoms stand for.
pub mod AtomRules
-- What the rules of terms stand for.
pub mod TermRules
-- What the rules of markup stand for.
pub mod MarkupRules
-- What the rules of declarations stand for.
pub mod DeclRules
-- Names one after another.
pub mod NameLists
-- Declarations of types.
pub mod Types
-- Declarations of tables, sequences and cookies.
pub mod Tables
-- Declarations of a module.
pub mod Decls
-- The values of an interface.
pub mod Signed
