-- What a run does beside its page, as the definitions have it.
pub mod Effects
-- What a call within a run answers, as an outcome within the term at a place.
pub mod Acting
-- What a run comes to, as an outcome of the meaning of requests.
pub mod Ran
