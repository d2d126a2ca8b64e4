-- Which command words name.
pub mod Words
-- The lines that the program writes beside pages and refusals.
pub mod Lines
-- What the top call promises.
pub mod Top
