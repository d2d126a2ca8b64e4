-- The datatypes of declarations, one after another (for `datatypes_before`).
pub mod Before
-- Patterns that are asked of a type, one after another (for `asked_of`, `add`).
pub mod Adding
-- Shapes and cells that are put before others, one after another (for `with_cells`, `prepended`).
pub mod Fronts
-- A type in normal form tells what its head at its arguments tells (for `see`).
pub mod Spines
-- The fields of a row, one after another (for `add_pairs`, `add_fields`).
pub mod Fields
-- What a record pattern's fields ask, and how deep they are, from the last on (for `fields_test`, `fields_depth`).
pub mod PatternFields
-- Columns for the fields of a record, from the last to the first (for `columns_at`).
pub mod ColumnsOn
-- The field of a shape with a name, field by field (for `field_at`).
pub mod ShapeFields
-- The fields of a record as columns of a row, one after another (for `columns_of`).
pub mod RecordColumns
-- Types of parts, one level after another (for `large_among`).
pub mod LevelsOn
-- The first shapes of a type and of fields, step by step (for `first_shape`).
pub mod FirstFields
-- What columns, constructors and literals tell, step by step (for `misses`, `free_columns`, `at_column`, `one_turn`).
pub mod Turns
-- Literals that are tried one after another (for Right, Turns).
pub mod OverLiterals
-- What is left of rows where a shape of the first column is known (for Right).
pub mod Heads
-- What is left of rows where the fields of a record are columns, and what patterns ask (for Answered, Right).
pub mod Parts
-- The first shape of a type is one of its shapes; without a first, it has none (for Right).
pub mod Firsts
-- What the computed answer says is so (for Answered).
pub mod Right
-- The answer for patterns (law `the_computed_answer_is_so`).
pub mod Answered
-- Whether a type or that of a part is too large, level by level (law `levels_tell_what_is_too_large`).
pub mod Large
-- What is answered of patterns that are asked of a type (for `first_missed`, `covers_asked`).
pub mod Asking
-- What the computed reason tells (law `silence_is_cover`).
pub mod Reasons
