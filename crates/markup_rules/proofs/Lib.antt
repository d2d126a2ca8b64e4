-- What it means that nothing is told, of comparisons, kindings and rows too (for AttributesAre and others).
pub mod Basics
-- Loops over the terms of a list and what is found for them (for `going_backward`, `going_forward` and others).
pub mod Loops
-- Nodes for which a row is computed are found (for Found).
pub mod NodesAre
-- Links and actions that break nothing are linked (for AttributesAre).
pub mod LinksAre
-- Attributes of which nothing is told are found (for Found).
pub mod AttributesAre
-- What an element holds, where it stands, and its field's name, where nothing is told of them (for Found).
pub mod ContentIs
-- Elements and literals for which a type and no fault is computed are found (law `markup_is_found`).
pub mod Found
