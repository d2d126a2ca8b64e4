-- What a refusal gives back.
pub mod Refusals
-- The plain data that the parts of terms and the scopes of a walk are.
pub mod Parts
-- Entries that are one call twice, and what is told of them.
pub mod Twice
-- What is found for the declarations of a program, one after another.
pub mod Declarations
-- What is declared so far, as plain data.
pub mod View
-- What a program tells.
pub mod Told
-- Texts by which most entries that aren't one call differ.
pub mod Keys
