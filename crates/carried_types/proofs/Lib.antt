-- Answers joined, and walks over lists (for BuiltMeans, Marks).
pub mod Both
-- Datatypes by their symbols (for Marks).
pub mod Places
-- What is computed to be built of what links carry is so, and what is computed not to be isn't (for Loops and others).
pub mod BuiltMeans
-- The marks of the greatest closed set (law `what_is_carried`).
pub mod Marks
-- Types that are computed to be alike are so (for Shown).
pub mod Alike
-- What is computed of pages and forms is so (laws `what_is_filled`, `what_is_shown`, `what_is_sent`).
pub mod Shown
-- Steps of the functions' loops and recursions (for `carried_behind`, `is_built`).
pub mod Loops
