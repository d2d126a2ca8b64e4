-- Stacks as lists whose first element is the last that was put (for `push`, `pop`).
mod Stacks
-- From one moment of a making to the next (for `begin_record`, `value_of`, `begin`, `handed_up`).
mod Moves
-- Shapes with their arguments, one level at a time (for `next_part`, `value_of`, `resolved` and others).
mod Closing
-- Wires and values by their form (for `unit`, `number`, `words` and others).
mod Forms
-- The values of arguments, one after another (for `values_of_wires`).
mod Given
-- Datatypes by their numbers (for Steps).
mod Datatypes
-- The steps of a making, over what its parts stand for (for `begin_record`, `next_part`, `begin_data`, `handed_up`).
mod Steps
-- Steps, and what they lead to, by what they are (for `value_of`, `moved`).
mod Turns
-- What wires are read with, for one who has the routes of the program (no function uses it).
pub mod Routed
