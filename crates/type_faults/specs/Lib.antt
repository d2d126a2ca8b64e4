-- The faults that values of this crate are.
pub mod View
