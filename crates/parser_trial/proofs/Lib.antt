-- A tree that the engine read for what a reader wants is one that it takes (for `markup_of`, `query_of`).
mod Handing
