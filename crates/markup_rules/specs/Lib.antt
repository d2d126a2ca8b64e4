-- Nodes beside one another, as it is computed: what they tell, and the fields that they fill.
pub mod Nodes
-- Links and actions, as it is computed: calls of top-level functions with arguments that travel.
pub mod Links
-- The attributes of an element, as it is computed, one after another.
pub mod Attributes
-- Where an element stands, its rows, and its field's name, as it is computed.
pub mod Standing
-- What an element holds, as it is computed.
pub mod Content
-- What is found for elements and literals, as it is computed from what is found for their terms.
pub mod Elements
-- The plain data that the values of this crate are.
pub mod View
-- What is computed for elements and for literals is found, where what is computed for their terms is.
pub mod Laws
