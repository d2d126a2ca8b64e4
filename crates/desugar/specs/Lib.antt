-- Tokens as what trees stand for.
pub mod Leaves
-- What each tree of the grammar stands for.
pub mod Plain
-- The parts of a rule, from what was read before it.
pub mod Stacks
-- Reading the listing of a tree from right to left.
pub mod Reading
-- The trees that entries of the program are.
pub mod View
