-- For `Wires` and `copy_wire`: the trees of lists of values.
pub mod Lists
-- What the parts of a value weigh (for `holding`, `drop`).
pub mod Weighing
