-- Behind each file: the public clause for which it serves.
-- `Reader::step`: `steps`: a tree stays one where another token stands behind it
pub mod Following
-- `Reader::step`: `steps`: what was read grows to a whole tree
pub mod Growing
-- `Reader::step`: `refused`: the tokens before the refused one begin a tree
pub mod Beginning
-- `Reader::step`: `steps`, `refused`: the open form stands in constructors alone
pub mod Shut
-- `Reader::step`: `steps`, `refused`: each tree that agrees goes through each state
pub mod Passes
-- `Reader::step`: `refused`, and that no other tree is longer
pub mod Stops
-- `Reader::step`, `Reader::fill`: what a step begins with, and what it gives
pub mod Steps
