-- A program that passes each test is formed (for `is_formed`).
pub mod Whole
-- Lists, element by element (for `kinds_differ`).
pub mod Lists
-- Numbers that find no mark at their places differ (for `symbols_differ`).
pub mod Marks
-- Lists of items and of declarations, one more in front (for `items_fit`, `locals_fit`).
pub mod Parts
-- Where values stand (for `decl_stands`, `count_some`).
pub mod Standing
-- Texts at the same places (for `begins_with`, `texts_differ`).
pub mod Tables
