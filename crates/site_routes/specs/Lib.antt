-- The shapes of types' values, as they are computed within a room for nesting.
pub mod Shaping
-- The values of a program, each by its type and the name that it has in links.
pub mod Linked
-- Links and actions, as the values that they call are marked.
pub mod Marking
-- What entries take: arguments that links carry, and a form's fields where they are actions.
pub mod Taking
-- What the values of this crate are.
pub mod View
