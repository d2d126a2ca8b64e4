-- Kinds and constructors as finite trees, with binders counted outwards from 0.
pub mod Trees
-- The tree that a value of the program is.
pub mod View
-- Shifting and substitution, as two uses of one walk over a constructor.
pub mod Substitution
-- How large a constructor is: its numbers, its binders, its depth.
pub mod Size
-- Which constructors are equal: the least congruence with these laws.
pub mod Equal
-- Which rows share no name, and which names differ.
pub mod Apart
-- Which constructors have which kind.
pub mod Kinded
-- A table of texts: a symbol is the place of its text.
pub mod Symbols
-- Whether two kinds are one, computed.
pub mod Same
-- Laws of shifting, substitution and equality.
pub mod Laws
