-- From the files of a project to what its program is held against (for `build`, `build_text` and the steps of `chain`).
pub mod Sources
-- From what the steps of building tell of a fault to its cause (for `build` and `build_text`).
pub mod Causes
-- From what inference and the checker promise to why a program is refused (for `elaborated` and `unchecked`).
pub mod Refused
-- Too many tables are told at one line at most (for the laws).
mod OneLine
-- One cause at most (for the laws).
mod OneCause
-- What is so of the trees that the modules which were read list (for `first_beyond` and `are_built`).
pub mod Listed
-- The lines of project files, and at which a module stands (for `first_like`, `line_of` and the laws).
mod ProjectLines
-- At which line too many tables are told (for `file_of`, `line_in` and `too_many_tables`).
mod TooMany
-- The name of a project's file among others (for `project_name` and the laws).
mod ProjectNames
