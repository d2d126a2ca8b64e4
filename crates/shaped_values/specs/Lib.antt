-- Which values a type has, and which shapes a value has.
pub mod Values
-- What patterns that cover mean when a program runs.
pub mod Laws
-- Values that types have, worked out.
pub mod Examples
