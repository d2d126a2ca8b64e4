-- What faults say, and what is so of the files that are told (for Gathering, Naming, `read_in` and others).
mod Saying
-- What is read of a file (for `reading`).
mod Fronts
-- From what the lexer and the parser answer to a file's tree, or to why it has none (for `modules`).
mod Texts
-- The names of project files among others (for `only_project`).
mod Names
-- Names among others (for `is_among` and `knows_foreign`).
mod Foreign
-- The files in a folder and their names (for Naming).
mod Folders
-- From a folder's names and its project file to what it says (for `project_name` and `read_project_file`).
mod Naming
-- From the files of a module to the module, or to why there is none (for Gathering).
mod Files
-- From what was read of a module's files to the module, and to the project (for `projects`).
mod Gathering
-- A file has one tree at most, and is refused for one reason (for the laws).
mod OneText
-- A line names one module at most, or none for one reason (for the laws).
mod OneModule
-- A folder holds one project at most, or none for one reason (for the laws).
mod OneProject
