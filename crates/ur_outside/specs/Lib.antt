-- When a call may answer that the outside failed.
pub mod Causes
-- What a write that stopped halfway leaves.
pub mod Whole
-- Bytes that are kept as they pass.
pub mod Keeping
-- Files and folders, as far as an object tells them.
pub mod Files
-- What files in memory tell.
pub mod MemFiles
