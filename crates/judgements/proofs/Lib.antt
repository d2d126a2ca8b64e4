-- Scopes as the program keeps them (for `local_type`, `look_up`).
pub mod Scopes
-- Pieces, one after another (for `without_piece`, `field_among`, `without_pieces`).
pub mod OverPieces
-- The only field of a literal (for `value_of_only`).
pub mod OnlyField
-- Types that are their own normal forms (for `is_own_form`, `is_one_form`, `into_normal`, `is_alike`, `wants`).
pub mod OwnForms
