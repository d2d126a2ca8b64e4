-- What a tree of the grammar stands for.
pub mod Meanings
-- The trees that meanings of the program are.
pub mod View
-- The parts of a rule, and what they hold.
pub mod Parts
-- Words as names and labels.
pub mod Words
