-- Types of variables under binders of constructors (for `first_bound`).
pub mod Raised
-- Where no top-level value is an instance (for `with_top`, `first_top`).
pub mod Plain
-- One more item of a call, one more declaration of a let (for `items_chosen`, `behind_locals`, `are_asked_behind`).
pub mod Parts
-- Comparison with a normal form that is a class at a type (for `is_of_form`, `is_of_basis_form`).
pub mod SameForms
-- One more module in front (for `modules_chosen`).
pub mod Modules
-- One more field of a pattern, one more name (for `under_fields`, `inside_names`).
pub mod Fronts
-- The fields of literals (for `past_fields`, `have_fields`, `is_row_of`).
pub mod Fields
-- The search for an instance finds the first of all candidates (for `is_instance_of`).
pub mod Searches
-- What is inserted for a type (for `is_folder_of`, `is_instance_of`).
pub mod Inserting
-- The tables of a program (for `inserts_chosen`).
pub mod Tables
-- Each value that an accepted program names is declared (law `accepted_programs_have_no_gaps`).
pub mod Gapless
