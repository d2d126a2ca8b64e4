-- Words and texts of them.
pub mod Words
-- What symbols, constructor variables and kinds are called.
pub mod Names
-- What a text is printed over, as values hold it.
pub mod View
-- Fields in the order in which they are printed.
pub mod Order
-- What is printed of kinds and constructors: their words.
pub mod Shown
-- Texts with what is printed of kinds and constructors behind them.
pub mod Printed
-- What is known of a program.
pub mod Programs
