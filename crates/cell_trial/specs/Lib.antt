-- What a counter is after a history.
pub mod Counter
-- What a worker needs to serve, and what it has done.
pub mod Ready
-- What a shelf is after a history.
pub mod Shelf
-- What a worker at the shelf needs to serve.
pub mod ShelfReady
