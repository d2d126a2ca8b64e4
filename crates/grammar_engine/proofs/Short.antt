-- A short tree for each form, by which every state of reading begins a whole tree.
-- Behind each file: the public clause for which it serves.
-- `read_part`: `allowed`: the table of short trees
pub mod Shortest
-- `read_part`: `allowed`: they may stand behind each other
pub mod Calm
-- `read_part`: `allowed`: the table is right
pub mod Sound
-- `read_whole`: `allowed`: they need little room
pub mod Low
-- `read_part`: `allowed`: they fit
pub mod Filling
-- `read_whole`: `allowed`: from the parts of a text to the whole text
pub mod Whole
