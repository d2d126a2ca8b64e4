-- What names, numbers and operators of a source stand for.
pub mod Leaves
-- The forms of types, as rules look at them: with their rows as written.
pub mod Forms
-- What is in scope where a part of a source stands.
pub mod Heres
-- What type is wanted of each part of a form.
pub mod Wanted
-- Matching a pattern with a type: what is found for its unknowns.
pub mod Matching
-- Patterns, matched with a type.
pub mod Patterns
-- What a call begins with: an identifier, and its type.
pub mod Heads
-- Folders and instances, which calls insert.
pub mod Implied
-- What a call's items are while they are found.
pub mod Parts
-- The walk of an identifier's type at a call.
pub mod Walks
-- An identifier without arguments.
pub mod Alone
-- What is left of a call once its type is walked.
pub mod Settles
-- Calls.
pub mod Calls
-- Where an XML literal stands.
pub mod Contexts
-- XML literals and the nodes in them.
pub mod Literals
-- Functions, cases, lets, and names with their terms.
pub mod Binders
-- Records, and what follows a term in a chain.
pub mod Records
-- The relation itself.
pub mod Guided
-- Declarations.
pub mod Declarations
-- Whole programs.
pub mod Programs
-- Which terms count as one.
pub mod SameTerms
-- Statements about guided terms, none of them proved yet.
pub mod Laws
-- Examples, worked out.
pub mod Examples
