-- The place of nodes, from the tags among them (for `ring_of`).
pub mod Places
-- Whether there are nodes, and no tags among them, by their numbers (for `are_texts`).
pub mod Texts
