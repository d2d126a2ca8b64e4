-- The types of constructors before their datatypes' parameters.
pub mod Bodies
-- What has a name among some things.
pub mod Lookup
-- What is made unless memory ends.
pub mod Made
-- Where tags stand and what they hold, as the definitions say it.
pub mod Standing
-- Tables of symbols, text by text.
pub mod Tables
