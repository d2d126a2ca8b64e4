-- What a listing leaves on the stack, tree by tree (for `plain`, `plain_interface`).
pub mod Listed
-- Repetitions and the parts of rules, one tree after another (for `repeated`, `parts`).
pub mod Repeated
