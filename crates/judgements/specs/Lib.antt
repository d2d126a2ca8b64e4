-- What is found for names and for patterns, as it is computed.
pub mod Bindings
-- What comparisons and heads of types tell, as it is computed.
pub mod Comparisons
-- How the field of a name is taken out of pieces, and a piece out of others, one piece after another.
pub mod Pieces
-- The plain data that the values of this crate are.
pub mod View
