-- An element by what is around its content, and then by the content (for `content`).
pub mod Around
-- Calls by their parts: two terms, one text, a case with two branches (for `is_form`, `left_of_infix` and others).
pub mod Calling
-- Chains by their last link (for `is_chain`, Entering).
pub mod Chaining
-- How many items are left of a call, one or two of them, and the only branch (for `count_left`, `only_branch`).
pub mod Counting
-- Lists that differ in length are not alike (for `same_texts`, `same_effects`, `are_builders` and others).
pub mod Each
-- Parameters one after another, and the links of a chain from the last on (for `is_chain`).
pub mod Entering
-- Where reading e && d, e || d and an operator ends (for `left_of_and`, `left_of_or`, `left_of_operator`).
pub mod Exits
-- The number of the module that is read (for `last_home`).
pub mod Homes
-- What is left of calls when what was inserted is dropped (for `none_left`, `standing`, `is_value` and others).
pub mod Leaving
-- Lists of parts are read where lengths agree and each part is read (for `are_branches`, `are_fields` and others).
pub mod Listed
-- A term of the program, and its form, as trees (for `standing`, `is_let`, `left_of_infix` and others).
pub mod Nodes
-- Two lists whose elements are compared one by one (for `are_branches`, `are_fields`, `are_names` and others).
pub mod Pairs
-- Patterns of the source don't tell the types of their variables, so these don't matter (for `is_pat`, `reads`).
pub mod PatternReading
-- The names of patterns and of declarations, one after another (for `inside_pattern`, `inside_group`).
pub mod Scoping
-- Texts that are put into a table, and the values that a module exports (for `put`, `exports_back`).
pub mod Selecting
-- What is computed of a program and its source, part by part (law `sources_are_read`).
pub mod Sources
-- Reading declaration by declaration, and module by module (for `read_decls`, `read_modules`).
pub mod Steps
-- The tables of a program, as they are seen (for `is_source`).
pub mod Tables
-- Tasks one after another, and parts beside what is left to compare (for `ask`, `are_done`, `is_applied`).
pub mod Tasking
-- The items of a call, and the declarations of a let, one after another (for `are_items`, `are_locals`, `is_chain`).
pub mod Walking
-- A form of the source against what is left of a term, told in other words (for `is_form`).
pub mod Whole
-- Links of a chain and nodes of a page in the source, as trees (for `left_of`, `are_nodes`).
pub mod Written
-- Terms of the source, as trees (for `is_form`).
pub mod WrittenForms
