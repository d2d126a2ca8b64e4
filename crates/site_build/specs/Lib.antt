-- The lines that tell why a project isn't built.
pub mod Lines
-- The program that the sources of a project say.
pub mod Sources
-- Why the program of a project is refused.
pub mod Refusals
-- How many tables a module declares.
pub mod Tables
-- Why a project isn't built.
pub mod Causes
-- Why a module alone has no page.
pub mod Unshown
-- What the steps of building tell of a fault.
pub mod Faults
-- A project, or a module alone, isn't built for one cause at most.
pub mod Laws
