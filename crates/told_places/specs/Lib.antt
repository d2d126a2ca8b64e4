-- Where a byte of a text stands, as a person counts.
pub mod Places
-- The piece of a line that is shown.
pub mod Pieces
-- The lines that tell a place.
pub mod Telling
-- The line of a refusal, as it is read.
pub mod Refusals
