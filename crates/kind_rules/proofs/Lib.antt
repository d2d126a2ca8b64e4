-- A constructor keeps its kind where the sides of guards are replaced by equal ones (law `equal_guard_keeps_kind`).
pub mod Guarded
-- A constructor has the kind that is found for it (law `found_is_kinded`).
pub mod Sound
-- The two kinds of a mismatch differ (for `kind_of`).
pub mod Differ
-- A constructor has one kind only (law `one_kind_only`).
pub mod OneKind
-- What is found for a list, as far as a loop has come (for `find`).
pub mod Lists
-- The kind of a tuple, from a list of kinds (for `longer`, `component_of`, `of_tuple`).
pub mod Tuples
-- Of a constructor with a kind this kind is told, or what keeps two rows from being apart (law `kind_is_found`).
pub mod Told
-- What a flaw of a comparison rests on (law `kind_is_found`).
pub mod Causes
-- Literal names that differ are apart, whatever is assumed (for `are_two_literals`, `are_different_literals`).
pub mod Literals
-- What a comparison tells (for `told_of`, `compare`).
pub mod Fairness
-- Scopes as the program keeps them (for `raise_each`, `kind_bound`, `kind_named`, `guards`).
pub mod Layers
