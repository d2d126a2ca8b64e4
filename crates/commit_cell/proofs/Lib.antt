-- Lists, and how often a number stands in them (for Moves, Worlds).
pub mod Lists
-- How often a number stands among those of the passes (for Moves, Worlds).
pub mod Numbers
-- For `worlds_keep_their_facts`: each event keeps a world's facts.
pub mod Worlds
-- For what each step of `Cell` requires: it keeps the table's rule.
pub mod Moves
-- For `steps_are_events`: each step is an event of the world that the table shows, or leaves it.
pub mod Shown
-- For `Cell::take`'s `TakesTurn` and `Cell::close`'s `Closes`: what is counted of a pass.
pub mod Turns
