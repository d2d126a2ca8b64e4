-- Lists in terms, as the parts that they are read into (for `next_place` and `put_decl` on the program's side, `next_byte`
-- and its kin on the source's).
pub mod Bridges
-- Calls of which only the head is left, and calls that stay (for `next_place`).
pub mod Calls
-- One more part, put before the others (for `put` and `put_all` of both sides, `next_place` and `next_byte`).
pub mod Listing
-- The declarations of one more module (for `are_placed`).
pub mod Modules
