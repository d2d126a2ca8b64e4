-- The page of a run is that of its program (for `page_of_entry`, `page_of_main`).
mod Shown
-- The page that is found is the program's answer to the request (for `page_of_program`).
pub mod Answering
-- Why a program shows no page: from how its run stops to what it answers (the clauses `refused`).
pub mod Unshown
