-- What is printed of shapes of values.
pub mod Shapes
-- What the line of a refusal says behind its place.
pub mod Lines
