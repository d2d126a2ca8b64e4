-- Where nodes stand, as it is computed from the tags among them.
pub mod Tags
-- What the values of this crate are.
pub mod View
