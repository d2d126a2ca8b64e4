-- What is left of lists, one element after another (for `judge`, `with_items`, `with_fields` and others).
pub mod Listed
-- Steps of the walk: what a function's answer says of the whole (for `with_names`, `with_fields`, `judge` and others).
pub mod Steps
-- Steps of the loops over declarations and what is in them (for `constructors_found`, `taking` and others).
pub mod DeclSteps
-- Scopes at the top, and what is declared in them (for `with_datatype`, `data_found`, `with_values` and others).
pub mod Tops
-- Declarations that are found, with nothing told of them, are found by the rules (for NoneTold, ToldDeclarations).
pub mod Declared
-- Where nothing is told, and what is told where something is (for `told`, `told_of`, `fault_told`).
pub mod NoneTold
-- Names and entries that are one (for `is_twice`, `is_same_name`, `is_same_call`).
pub mod EntryNames
-- A site's entries tell what the program's tell, and differ where nothing is told (for EntryFaults, NoneTold).
pub mod EntriesApart
-- What is told of the entries of a list, one after another (for `told_at`, `entries_told`).
pub mod EntryFaults
-- Keys of entries, and tables of them (for `add_pieces`, `key_of`, `is_second`).
pub mod EntryKeys
-- Where the values of a program stand, and copies of names (for `add_places`, `copy_texts`, `places`).
pub mod EntryPlaces
-- What is told of a datatype: kinds of what constructors hold, and names that stand twice (for ToldDeclarations).
pub mod ToldConstructors
-- What is told of declarations in order: of their terms, and of themselves (for ToldPrograms).
pub mod ToldDeclarations
-- What a program tells: the first fault of terms, of declarations and of entries (for `checked`).
pub mod ToldPrograms
