-- That each name of a program's source is in scope.
pub mod Laws
-- Two modules, of which one has an unbound name, and one is a program's source.
pub mod Examples
