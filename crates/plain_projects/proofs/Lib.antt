-- Modules one after another, with what they declare and export (for `plains_of`, `exported_of`, `rules_of`).
pub mod Sources
