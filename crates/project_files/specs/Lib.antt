-- The lines of a project file.
pub mod Lines
-- What a directive of a project file says.
pub mod Directives
-- What a project file says, and at which line it is refused.
pub mod Projects
-- What the program's own values are seen as.
pub mod View
-- Why a project file isn't read.
pub mod Refused
