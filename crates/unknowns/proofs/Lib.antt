-- What was found stays found, from step to step (for `rest`, `fit`, `fitted` and others).
pub mod Kept
-- Keeping an answer leaves the number of unknowns (for `put`).
pub mod Counts
