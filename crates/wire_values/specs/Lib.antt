-- A value that is made of a wire amid others: what waits for it, and what may come of it.
pub mod Amid
-- Shapes with their datatype's arguments, and what the parts of a making stand for.
pub mod Scoped
-- What wires are read with.
pub mod Known
