-- What the steps of reading keep. Behind each file: the public clause for which it serves.
-- `read_part`: `reads`: what was read becomes a whole tree by trees for what is still to be read
pub mod Grown
-- `read_part`: `reads`, `stuck`: a step keeps that what was read grows to a whole tree
pub mod Grows
-- `read_part` ends: each step takes a token, or comes nearer to one
pub mod Smaller
-- `read_part`: `allowed`, `come`: what was read, and what other ways came to, begins a tree
pub mod Allowing
-- `read_part`: `allowed`: a `[` in braces of a query
pub mod Splicing
-- `read_part`: `allowed`, `stuck`: a step keeps that what was read begins a tree
pub mod Readies
-- `read_part`: `sole`, `ends`: texts with the same tokens up to a place
pub mod Agreeing
-- `read_part`: `sole`, `ends`: what a step gives each tree that agrees
pub mod Passed
-- `read_part`: `sole`, `ends`: each step
pub mod Steps
-- `read_part`: `sole`, `ends`: what stands behind a part
pub mod Trailing
-- `read_part`: `sole`, `ends`: how many races are needed
pub mod Raced
-- `read_part`: `sole`, `ends`: the raced rules
pub mod Racing
-- `read_part`: `sole`, `ends`: ample room stays ample
pub mod Roomy
-- `read_part`: `sole`, `ends`: each tree with the tokens looked at goes through each state
pub mod Going
-- `try_way`: `shut`: a way is shut where no tree of its form has the tokens looked at
pub mod Ways
