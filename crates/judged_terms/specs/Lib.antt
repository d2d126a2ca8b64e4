-- The scopes that terms open, under patterns and under guards, and what is judged there.
pub mod Openings
-- What is found for a list from what is found for its terms, as it is computed.
pub mod Listed
-- What is found for a term, as it is computed: the type, and the fault that is told.
pub mod Judge
-- What is found for a term, with a type and no fault, is found by the rules, with cover.
pub mod Laws
