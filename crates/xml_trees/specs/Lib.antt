-- The names that tags are written with.
pub mod Names
-- The tags of a page, and the names that they are written with.
pub mod Tags
-- Pages as trees, and pages that are being built.
pub mod Trees
-- Trees as a page's text has them: tags and attributes by their bytes, and texts.
pub mod Markup
-- How trees are written: their tags and attributes, texts joined, empty ones left out.
pub mod Written
-- The grammar of a page's text: which bytes stand for which trees.
pub mod Grammar
-- The text of a page, computed piece by piece.
pub mod PieceText
-- One page with its text.
pub mod Example
-- The names that sources give to tags and attributes, and what these are in a page.
pub mod SourceNames
