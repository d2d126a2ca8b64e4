-- What is in scope where a part of a source stands, and what declarations and binders add.
pub mod Scopes
-- What a name stands for.
pub mod Standing
-- Whether a constructor is what its source says.
pub mod Reading
-- The scopes that values of the program are.
pub mod View
-- What the parts of a form that is read from left to right are.
pub mod Parts
-- Numbers by which most texts differ.
pub mod Marks
