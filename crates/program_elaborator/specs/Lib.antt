-- What has to hold of a refusal before it is told.
pub mod Causes
