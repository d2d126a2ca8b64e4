-- What is found for names, literals and constructors, as it is computed.
pub mod Names
-- What is found for functions and for terms with their types, as it is computed.
pub mod Functions
-- What is found for calls, as it is computed, item by item.
pub mod Calls
-- What is found for the declarations of a let, as it is computed, one after another.
pub mod Locals
-- What is found for records, their operations, and folders, as it is computed.
pub mod Records
-- The plain data that the values of this crate are.
pub mod View
