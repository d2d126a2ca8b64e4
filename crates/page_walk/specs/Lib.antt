-- What the trees of a run are as trees of a page, and how many nodes they were put together of.
pub mod Walked
-- The link of a top-level value that is given values.
pub mod Links
-- What is added to a link, and what is still to be added.
pub mod Adding
