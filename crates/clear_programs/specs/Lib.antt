-- What it says of a program that no fault is told of it.
pub mod Laws
