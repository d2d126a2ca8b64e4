-- Histories: lists of entries, each with the number of the pass that made it and with a serial.
pub mod History
-- Worlds: one history and the passes that know beginnings of it, and the events that change a world.
pub mod World
-- The rule of the cell's table, and what each step tells.
pub mod Rule
-- What clauses say of a cell, a pass and a turn.
pub mod Words
-- The event by which each kind of step of the cell's table moves the world, or that it leaves it.
pub mod StepEvents
