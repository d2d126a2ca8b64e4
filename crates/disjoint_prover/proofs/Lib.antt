-- What is left of a list from an index on (for Pieces).
pub mod Lists
-- The pieces of rows, and the first pair of them that isn't separated (for `check_piece`, `has_piece`, `check`).
pub mod Pieces
-- The trees of rows, from what a match tells (for `check_piece`, `has_piece`, `check`).
pub mod Trees
-- What is computed to be separated is, so that rows are apart (law `kept_apart_is_separated`).
pub mod Sound
-- The pair that is computed is the first that nothing keeps apart (laws `none_touch`, `touch_is_the_first`).
pub mod Touching
-- What an answer tells of the pieces, by the pair that is computed (for `disjoint`).
pub mod Answered
