-- What is judged of a term is its type and its told fault; and what is told can always be told.
pub mod Laws
