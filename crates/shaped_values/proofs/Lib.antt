-- What names are in an environment (for the others; laws `normal_names_hold`, `literal_names_hold`).
pub mod Names
-- Each value of a type has a shape of it (law `each_value_has_a_shape`).
pub mod Shaped
-- What the normal form of a type tells of its values and shapes (for Taken).
pub mod Seeing
-- The value and the shape of a record's field (for Taken).
pub mod Fields
-- A pattern takes a value where it takes its shape (law `patterns_take_what_shapes_say`).
pub mod Taken
-- Covering patterns take each value (law `covering_cases_take_a_branch`).
pub mod Cases
-- Steps suffice for matching patterns whose names are literals (law `literal_patterns_need_no_steps`).
pub mod Suffice
-- Values that types have, worked out (law `examples_are_values`).
pub mod Worked
