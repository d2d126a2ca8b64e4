-- How the rules of disjointness are used on normal forms: which pieces they separate.
pub mod Separation
-- Which pieces of two rows touch: the first pair that nothing keeps apart.
pub mod Touching
-- What guards and refusals are.
pub mod View
-- Laws of disjointness.
pub mod Laws
