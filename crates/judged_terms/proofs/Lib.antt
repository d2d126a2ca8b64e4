-- What it means that nothing is told, and that a comparison, a kinding and a head tell nothing (for Calls and others).
pub mod Basics
-- Names, literals, constructors and folders (for Main).
pub mod Names
-- Functions, and terms with their types (for Cases, Main).
pub mod Functions
-- Calls, item by item (for Main).
pub mod Calls
-- The declarations of a let (law `declared_are_found`).
pub mod Lets
-- Records, field by field (for Main).
pub mod Records
-- The operations on records (for Main).
pub mod Operations
-- Cases, branch by branch (for Main).
pub mod Cases
-- What is found for the terms of each list, from what is found for its parts (law `declared_are_found`).
pub mod Listed
-- Elements and literals, from the laws of the crate below (for Main).
pub mod Markup
-- What is judged to have a type and no fault is found by the rules (laws `judged_is_found`, `declared_are_found`).
pub mod Main
