-- What stands in lists, and what a choice between two keeps (law `each_request_is_answered`).
pub mod Lists
-- Shapes whose fields are named by symbols, also at arguments (law `each_request_is_answered`).
pub mod Symbols
-- The shapes of types and the cases of datatypes have such fields (law `each_request_is_answered`).
pub mod Shaped
-- The shape of a type that a form can fill is that of a form (law `each_request_is_answered`).
pub mod FormShapes
-- What the entries of a program take, and the values that they call (law `each_request_is_answered`).
pub mod Entries
-- What a body fills in a form has the form's shape (law `each_request_is_answered`).
pub mod FormWires
-- Wires of shapes are values, and so are arguments (law `each_request_is_answered`).
pub mod Given
-- A page has a text, and what a run comes to is an answer (law `each_request_is_answered`).
pub mod Ends
-- With the routes of an accepted program each request is answered (law `each_request_is_answered`).
pub mod Answered
-- No program is without routes (laws `routes_are_not_missing`, `no_request_is_without_answer`).
pub mod NotMissing
