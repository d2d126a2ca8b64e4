-- Pages that aren't whole (for `end`).
pub mod Ends
-- What is still to be done for a page, with one thing more (for `walked_through`, `enter`).
pub mod Doing
-- Trees of a run by their first node: as trees of a page, and how many nodes they have (for `enter`).
pub mod Parts
-- The walk of a page by its meaning: the trees in order, with a step for each node (for `walked`).
pub mod Meaning
-- What is added to a link, piece by piece (for `piece`, `write_words`).
pub mod Added
-- What values write of a link, one after another (for Forms, Whole).
pub mod Texts
-- Values by their form: what each writes of a link, and which write nothing (for `write_value`).
pub mod Forms
-- The whole link: its name, and all values behind it (for `write_values`, `link_of`).
pub mod Whole
-- Fields in the byte order of their names: one more in its place (for `write_fields`, `in_order`, `with_field`).
pub mod Placed
-- The name of a constructor of a datatype (for `write_case`).
pub mod Cases
-- A text as a link writes it: each byte but letters, digits and - . _ ~ escaped (for `write_words`).
pub mod Escapes
-- The name of a top-level value, piece by piece (for `write_name`, `write_path`, `name_text`).
pub mod Names
