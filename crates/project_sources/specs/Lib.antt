-- The lines that tell why a project's sources aren't read.
pub mod Lines
-- What a fault says.
pub mod Causes
-- From the bytes of a file to its tree, or to what stands in the way.
pub mod Texts
-- The modules of a project, as its files tell them.
pub mod Modules
-- The project in a folder, as its files tell it, and why there is none.
pub mod Projects
-- What the program's own values say.
pub mod View
-- What the steps of reading tell of a fault.
pub mod Steps
