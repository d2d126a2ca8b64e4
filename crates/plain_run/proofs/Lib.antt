-- An application to a value takes a step at least (for Actions, Given).
pub mod Spent
-- The moves of a run: what is still to be done gives the same (for `finish`).
pub mod Moves
-- Running an action: what is still to come of it, and functions applied to what it gives (for `run_action`).
pub mod Actions
-- The loop that runs an action, by the answers of what it calls (for `run_action`).
pub mod Kept
-- Trees of a record without fields and of a waiting action; what a foreign effect does (for `run_action`, `perform`).
pub mod Trees
-- What a run knows of its program is what the definitions know of it (for Runs).
pub mod Program
-- A value applied to others, and the page that an action gives, by the answers of calls (for `page_of` and others).
pub mod Given
-- What a run comes to, by the answer of the call of its value (for `run`).
pub mod Runs
