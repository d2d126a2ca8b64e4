-- That each request of an accepted program has an answer.
pub mod Laws
