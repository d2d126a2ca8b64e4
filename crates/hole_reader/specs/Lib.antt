-- What a reader leaves to another.
pub mod Holes
-- How far a part is read.
pub mod Progress
-- Where a reader refuses.
pub mod Refuses
-- What a reader is doing, and what its steps give.
pub mod Readers
