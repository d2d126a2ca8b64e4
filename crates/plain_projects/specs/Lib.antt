-- What the trees of a project say without sugar.
pub mod Said
-- Trees of the code, one after the other.
pub mod Listed
