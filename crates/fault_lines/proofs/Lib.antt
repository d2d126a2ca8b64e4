-- What is put behind a text of a shape is the words that are shown (for `with_shape_behind`).
pub mod ShapeWords
-- The fields of a shape, one by one (for the cycle `+shape`).
pub mod ShapeFields
-- What is known of a program, piece by piece (for `told_of_check`, `told_of_sources`).
pub mod Pieces
