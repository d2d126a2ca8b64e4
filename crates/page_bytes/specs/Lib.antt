-- The bytes of the parts of a page's text.
pub mod Chunks
-- The bytes for one byte of a text.
pub mod Escapes
-- Lengths of up to 16 MiB.
pub mod Lengths
-- What writing a page does.
pub mod Pages
-- What a writer that gathers bytes on their way to a sink has done.
pub mod Puts
