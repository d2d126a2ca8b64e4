-- What a source file holds as a whole.
pub mod Sources
