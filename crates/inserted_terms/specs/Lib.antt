-- What is in scope where it matters what is inserted.
pub mod Inside
-- The type of what a call begins with.
pub mod Heads
-- What stands where the rules choose nothing.
pub mod Lacking
-- What is asked of what a call inserts.
pub mod Asked
-- What is asked of a whole term.
pub mod Chosen
-- What is asked of a program.
pub mod Programs
-- One item of a call, one declaration of a let.
pub mod Parts
-- The normal forms of the types of instances.
pub mod Forms
-- The search for an instance, step by step.
pub mod Searches
-- The fields of a row.
pub mod Folders
-- Terms in which nothing is lacking.
pub mod Gapless
-- Values with their types, as the program keeps them.
pub mod Values
-- The plain data that values are.
pub mod View
