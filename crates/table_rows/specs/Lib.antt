-- The bytes that a text holds.
pub mod Held
-- Values that a link, a form or a cookie can carry, as finite trees.
pub mod Wires
-- How many parts a value has.
pub mod Weights
-- Which values have which shape.
pub mod Shapes
-- The trees that values of the program are.
pub mod View
-- The pieces of a link or a cookie that a value is written as.
pub mod Pieces
