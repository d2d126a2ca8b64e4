-- Plain trees as finite trees, with the bytes of their first tokens.
pub mod Trees
-- The trees that constructors and patterns of the program are.
pub mod ConView
-- The trees that queries and changes of tables of the program are.
pub mod SqlView
-- The trees that terms of the program are.
pub mod ExpView
-- The trees that declarations, modules and interfaces of the program are.
pub mod View
