-- Values, outcomes, and what is in an environment.
pub mod Values
-- The values that links carry: from a value to what a link writes.
pub mod Wired
