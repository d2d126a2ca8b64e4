-- How long the text of a page may be.
pub mod Lengths
-- Which page a program shows.
pub mod Shown
-- How the page of a program is found.
pub mod Found
-- Why a program shows none, as the line that says so.
pub mod Unshown
-- How a run stops without a page.
pub mod Stopped
