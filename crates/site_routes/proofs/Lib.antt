-- Steps of the recursions and loops that give shapes (for `shape_of`, `cases_of`, `shapes_of`).
pub mod Steps
-- Fields of rows, and their parts in byte order (for `comes_before`, `shape_of`, `put_part` and others).
pub mod Fields
-- What is computed to be a type's shape is so; where none is, there is none (for Shaped, Taken).
pub mod ShapedMeans
-- The cases of datatypes (for `shaped_datatypes`).
pub mod Shaped
-- The names of values in links, and the values of declarations (for `link_name`, `add_list`, `values_of`).
pub mod Names
-- The trees of lists of terms, and what targets their members have (for `mark_term`).
pub mod Members
-- Marks of the values that links and actions call (for `mark_decls`, `called_by`, `mark_term` and others).
pub mod Marks
-- What a type takes, step by step (for `argument_step`, `step_of`, `arrow_step` and others).
pub mod Taken
-- The entries of a program's values, one value after another (for `is_posted`, `is_got`, `entries_of` and others).
pub mod Listed
-- Texts in byte order (for `is_before`).
pub mod Before
