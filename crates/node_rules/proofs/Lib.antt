-- Fields as a list (for `listed_row`).
pub mod Listed
-- What is left of the pieces of a row in order is in order (for `cut_of`, `on_head`, `row_cut_of`).
pub mod LeftInOrder
