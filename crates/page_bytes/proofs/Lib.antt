-- For `page_length`: lengths as they are told, and their sums.
pub mod Lengths
-- For `page_length` and `write_page`: what a piece adds behind the others.
pub mod Pieces
-- For `write_page`'s `front` and `failed`: what is put out, piece after piece.
pub mod Putting
-- For `write_page`'s `page` and for `page_length`: a tag as its chunks.
pub mod Tags
-- For `write_page`'s `page`: the pieces' text is one of the page.
pub mod Written
