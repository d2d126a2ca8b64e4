-- How a page grows by its pieces (for `begin`, `end`, `words`, `join`).
pub mod Growing
-- The names of tags and attributes are names (for Normal).
pub mod Named
-- What is written is normal, and its text is that of the trees (laws `written_is_normal`, `example_is_shown`).
pub mod Normal
-- A page's pieces, written one after another, are its text (law `pieces_are_pages`).
pub mod Pieces
-- The text of written trees, computed, and that the grammar gives exactly it (law `example_is_shown`).
pub mod Spelling
-- A page's bytes stand for its trees alone (laws `texts_are_unique`, `pages_are_unique`).
pub mod Unique
-- The tags that take text and one another, by the names that sources give them (for `simple`).
pub mod SimpleTags
