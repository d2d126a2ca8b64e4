-- The entries of a site, calls of them, and requests.
pub mod Calls
-- The texts of links, and which call a path is.
pub mod Links
-- What is still to be written of a link.
pub mod Pending
-- How pieces are read as values of given shapes, from left to right; and where that fails.
pub mod Reading
-- A value that is read amid others: what waits for it, and what comes of it.
pub mod Amid
-- Shapes with their datatype's arguments, and what the parts of a reading stand for.
pub mod Scoped
-- What the body of a request is as a form.
pub mod Forms
-- What a target and a method lead to: a call, or the one refusal.
pub mod Routed
-- What the types of the program stand for.
pub mod View
-- Links and forms worked by hand.
pub mod Worked
-- Laws of routes: a path is read piece by piece, and is a link of one call at most.
pub mod RouteLaws
-- What is answered to a path.
pub mod Answered
