-- What is asked of the columns of a key.
pub mod Columns
-- The tree that an element of the program is.
pub mod Elements
-- What is asked of the leaves of a part of a term: an item of a call, and a declaration of a `let`.
pub mod Parts
-- No two folders are for one kind, and no two symbols are one.
pub mod Symbols
-- Where values stand, and how many there are.
pub mod Values
