-- What holds of truths, and of what is asked of each of a list (for many of the others).
pub mod Bools
-- The laws of the table of rules (law `one_token_decides`; for `choose`, `read_part`).
pub mod Table
-- What holds of every tree (laws `one_tree`, `one_whole_tree`; for `read_whole`).
pub mod Trees
-- What tells the raced rules apart, found by scans over tokens (law `one_whole_tree`).
pub mod Fronts
-- A short tree for each form, by which every state of reading begins a whole tree (for `read_part`, `read_whole`).
pub mod Short
-- What the steps of reading keep (for `read_part`, `try_way`).
pub mod Keeping
-- From the parts of a text to the whole text (laws `one_refusal`, `trees_are_not_refused`; for `read_whole`).
pub mod Texts
