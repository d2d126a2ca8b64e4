-- Whether a type is built of what links carry, as it is computed within a room for nesting.
pub mod Built
-- Whether a form can fill a type's values, as it is computed.
pub mod Filling
-- The datatypes that links carry: the greatest set of those that hold only what the set carries.
pub mod Carriers
-- Functions of carried arguments that give pages, as they are computed.
pub mod Pages
-- What the values of this crate are.
pub mod View
-- What the computed answers mean, where the marks are those of what links carry.
pub mod Laws
